-- Rows stuffed part by part.
use Prim.Native.Nat.{ℕ, suc, ◌+◌, ◌*◌, ◌≤◌, ◌<◌}
use mathlib.Core.Path.{◌≡◌, refl, sym, ap, ◌∙◌}
use mathlib.Core.Bool.{Bool, true, false, cond}
use mathlib.Core.List.{List, [], ◌∷◌, ◌++◌}
use native.Mathlib.Omega.{arith}
use native.Mathlib.Numerals.{add-one}
use lib.ListN.{length, get_or, drop}
use lib.Seq.{drop-cons}
use lib.Dec.{ltb}
use Rattle.bits.specs.Rows.{bits_of, bits_of_all}
use Rattle.bits.specs.Rows.Order.{low_first}
use Rattle.rawbits_writer.specs.Stream.{stuffed}
use Rattle.rawbits_writer.specs.Pen.{after}

pub stuffed-append : (k : ℕ) (s t : List Bool) → stuffed k (s ++ t) ≡ stuffed k s ++ stuffed (after k s) t
stuffed-append k [] t = refl
stuffed-append k (false ∷ s) t = ap (λ (r : List Bool). false ∷ r) (stuffed-append 0 s t)
stuffed-append k (true ∷ s) t = ap (λ (r : List Bool). true ∷ r) (go (ltb k 4) (stuffed-append (suc k) s t) (stuffed-append 0 s t))
  where
    go : (b : Bool) → stuffed (suc k) (s ++ t) ≡ stuffed (suc k) s ++ stuffed (after (suc k) s) t → stuffed 0
        (s ++ t) ≡ stuffed 0 s ++ stuffed (after 0 s) t
        → cond b (stuffed (suc k) (s ++ t)) (false ∷ stuffed 0 (s ++ t))
        ≡ cond b (stuffed (suc k) s) (false ∷ stuffed 0 s) ++ stuffed (cond b (after (suc k) s) (after 0 s)) t
    go true e f = e
    go false e f = ap (λ (r : List Bool). false ∷ r) f

-- at most two bits for one
pub stuffed-few : (k : ℕ) (s : List Bool) → length (stuffed k s) ≤ 2 * length s
stuffed-few k [] = omega arith
stuffed-few k (false ∷ s) = omega (arith, stuffed-few 0 s)
stuffed-few k (true ∷ s) = go (ltb k 4) (stuffed-few (suc k) s) (stuffed-few 0 s)
  where
    go : (b : Bool) → length (stuffed (suc k) s) ≤ 2 * length s → length (stuffed 0 s) ≤ 2 * length s
        → suc (length (cond b (stuffed (suc k) s) (false ∷ stuffed 0 s))) ≤ 2 * suc (length s)
    go true e f = omega arith
    go false e f = omega arith

-- the octets from number i on: that one, then the others
pub stuffed-here : (k : ℕ) (f : List ℕ) (i : ℕ) → i < length f
    → stuffed k (bits_of_all low_first (drop i f))
    ≡ stuffed k (bits_of low_first 8 (get_or f i 0)) ++ stuffed (after k (bits_of low_first 8 (get_or f i 0))) (bits_of_all low_first (drop (i + 1) f))
stuffed-here k f i h =
    ap (λ (r : List ℕ). stuffed k (bits_of_all low_first r)) (drop-cons f i 0 h ∙ ap (λ (j : ℕ). get_or f i 0 ∷ drop j f) (sym (add-one i)))
    ∙ stuffed-append k (bits_of low_first 8 (get_or f i 0)) (bits_of_all low_first (drop (i + 1) f))
