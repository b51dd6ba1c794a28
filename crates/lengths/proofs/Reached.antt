-- Octets that stand end to end, gone over part by part.
use Prim.Native.Nat.{ℕ, ◌+◌, ◌≤◌, ◌<◌}
use mathlib.Core.Path.{◌≡◌, refl, sym, ap, ◌∙◌}
use mathlib.Core.List.{List, [], ◌∷◌}
use native.Mathlib.Omega.{arith}
use native.Mathlib.Numerals.{add-one}
use lib.ListN.{length, get_or, take, drop, drop_of_length-le}
use lib.Seq.{drop-cons, drop-drop}
use Rattle.rules.specs.Packets.{cut, total}
use Rattle.rules.proofs.Lengths.{total-front, total-next}

-- part i starts at `at`, or all parts end there
pub record Reached (ns : List ℕ) (at i : ℕ) : Type 0 where
  pub inside : i ≤ length ns
  pub starts : at ≡ total (take i ns)

pub reached_first : (ns : List ℕ) → Reached ns 0 0
reached_first ns = record { inside = omega arith; starts = refl }

module _ {ns : List ℕ} {at i : ℕ} (t : Reached ns at i) where
  pub reached_fits : (d : List ℕ) → total ns ≡ length d → i < length ns → at + get_or ns i 0 ≤ length d
  reached_fits d e h = omega (arith, t.starts, total-next ns i h, total-front (i + 1) ns)

  pub reached_next : i < length ns → Reached ns (at + get_or ns i 0) (i + 1)
  reached_next h = record { inside = omega arith; starts = omega (arith, t.starts, total-next ns i h) }

-- the parts from number i on: that one, then the others; behind the last, none
pub cut-here : (d ns : List ℕ) (at i : ℕ) → i < length ns
    → cut (drop at d) (drop i ns) ≡ take (get_or ns i 0) (drop at d) ∷ cut (drop (at + get_or ns i 0) d) (drop (i + 1) ns)
cut-here d ns at i h =
    ap (cut (drop at d)) (drop-cons ns i 0 h ∙ ap (λ (j : ℕ). get_or ns i 0 ∷ drop j ns) (sym (add-one i))) ∙ rw drop-drop

pub cut-over : (d ns : List ℕ) (i : ℕ) → length ns ≤ i → cut d (drop i ns) ≡ []
cut-over d ns i h = ap (cut d) (drop_of_length-le ns h)
