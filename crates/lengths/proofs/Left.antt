-- What is left of n octets after the first lengths.
use Prim.Native.Nat.{ℕ, ◌+◌, ◌-◌, ◌≤◌, ◌<◌}
use mathlib.Core.Path.{◌≡◌, sym, ap}
use mathlib.Core.List.{List}
use mathlib.Core.Bool.{true, not}
use native.Mathlib.Omega.{arith}
use lib.ListN.{length, get_or, take}
use borrow.Author.Tests.{ne_eqb}
use Rattle.rules.specs.Packets.{total}
use Rattle.rules.proofs.Lengths.{total-front, total-next}
use Rattle.lengths.specs.Lengths.{lengths_wrong}

pub record Left (ns : List ℕ) (n left i : ℕ) : Type 0 where
  pub inside : i ≤ length ns
  pub even : left + total (take i ns) ≡ n

pub left-first : (ns : List ℕ) (n : ℕ) → Left ns n n 0
left-first ns n = record { inside = omega arith; even = omega arith }

module _ {ns : List ℕ} {n left i : ℕ} (t : Left ns n left i) where
  pub left-next : i < length ns → get_or ns i 0 ≤ left → Left ns n (left - get_or ns i 0) (i + 1)
  left-next h l = record { inside = omega arith; even = omega (arith, t.even, total-next ns i h) }

  pub left-short : i < length ns → left < get_or ns i 0 → true ≡ lengths_wrong ns n
  left-short h l =
      let more : n < total ns = omega (arith, t.even, total-next ns i h, total-front (i + 1) ns) in
      sym (ap not (ne_eqb (total ns) n (λ q. omega arith)))
