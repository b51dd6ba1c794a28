-- Laws of moving octets to a buffer's start, and of reading behind them.
use Prim.Native.Nat.{ℕ, ◌+◌, ◌-◌, ◌≤◌}
use mathlib.Core.Path.{◌≡◌, sym, ap, ◌∙◌}
use mathlib.Core.List.{List}
use native.Mathlib.Omega.{arith}
use native.Mathlib.Nat.{zero-add}
use lib.ListN.{length, take, drop}
use lib.Seq.{paste, take-take}
use Rattle.std.specs.Prelude.{Option, None, Some, IfSome}
use Rattle.std.specs.Option.{unwrap_or}
use Rattle.std.proofs.lemmas.List.Edits.{take-paste}

-- the n octets from at on, moved to the start
pub moved : (b : List ℕ) (at n : ℕ) → n ≤ length (drop at b) → take n (paste b 0 (drop at b) (at + n - at)) ≡ take n (drop at b)
moved b at n h =
    let e : at + n - at ≡ n = omega arith in
    rw e (ap (λ (k : ℕ). take k (paste b 0 (drop at b) n)) (sym (zero-add n)) ∙ take-paste b 0 (drop at b) n (omega arith) h)

-- no octets
pub none-moved : (a b : List ℕ) (n : ℕ) → n ≡ 0 → take n a ≡ take n b
none-moved a b n e = rw e

-- a part that is kept is kept in front
pub kept-front : (a b : List ℕ) (m n : ℕ) → m ≤ n → take n a ≡ take n b → take m a ≡ take m b
kept-front a b m n h e = sym (take-take m n a h) ∙ ap (take m) e ∙ take-take m n b h

-- what came is inside, if any did
pub came-inside : (r : Option ℕ) (l m : ℕ) → l ≤ m → IfSome r (λ came. l + came ≤ m) → l + unwrap_or r 0 ≤ m
came-inside None l m h k = omega arith
came-inside (Some n) l m h k = k
