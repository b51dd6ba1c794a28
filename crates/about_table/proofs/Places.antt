-- Elements of lists by their places.
use Prim.Native.Nat.{ℕ, zero, suc, ◌-◌, ◌≤◌, ◌<◌}
use native.Mathlib.Omega.{arith}
use native.Mathlib.Nat.{sub-zero}
use mathlib.Core.Path.{◌≡◌, refl, sym, ap, ◌∙◌}
use mathlib.Core.List.{List, [], ◌∷◌, ◌++◌, Memᴰ}
use mathlib.Core.Option.{none, some}
use lib.ListN.{length, get_elem?}
use Rattle.rules.specs.Channel.{Handed}
use Rattle.rules.specs.Bounds.{Under}

module _ {A : Type 0} where
  pub front : (xs ys : List A) (i : ℕ) → i < length xs → get_elem? (xs ++ ys) i ≡ get_elem? xs i
  front [] ys i h = absurd (omega arith)
  front (x ∷ xs) ys zero h = refl
  front (x ∷ xs) ys (suc i) h = front xs ys i (omega arith)

  pub back : (xs ys : List A) (i : ℕ) → length xs ≤ i → get_elem? (xs ++ ys) i ≡ get_elem? ys (i - length xs)
  back [] ys i h = ap (get_elem? ys) (sym (sub-zero i))
  back (x ∷ xs) ys zero h = absurd (omega arith)
  back (x ∷ xs) ys (suc i) h =
      let e : suc i - suc (length xs) ≡ i - length xs = omega arith in
      back xs ys i (omega arith) ∙ ap (get_elem? ys) (sym e)

  pub nothing-there : {B : Type 0} {x : A} → none ≡ some x → B
  nothing-there e = let z : ◌≡◌ {A = ℕ} 0 1 = cc in absurd (omega arith)

  pub same-there : {x y : A} → some x ≡ some y → x ≡ y
  same-there e = cc

  pub member : (xs : List A) (i : ℕ) (x : A) → get_elem? xs i ≡ some x → Memᴰ x xs
  member [] i x e = nothing-there e
  member (y ∷ xs) zero x e = Memᴰ.head (sym (same-there e))
  member (y ∷ xs) (suc i) x e = Memᴰ.tail (member xs i x e)

-- all handed out under one arrival number
pub under : (a : ℕ) (ps : List Handed) (i : ℕ) (h : Handed) → Under a ps → get_elem? ps i ≡ some h → h.arrival ≡ a
under a [] i h u e = nothing-there e
under a (p ∷ ps) zero h u e = ap (λ (x : Handed). x.arrival) (sym (same-there e)) ∙ u.0
under a (p ∷ ps) (suc i) h u e = under a ps i h u.1 e
