-- Laws of the comparison of two rows of octets.
use Prim.Native.Nat.{ℕ}
use mathlib.Core.Path.{◌≡◌, refl, ap}
use mathlib.Core.List.{List, [], ◌∷◌}
use mathlib.Core.Bool.{Bool, true, false, false≢true, ◌&&◌}
use lib.Dec.{eqb}
use lib.Pointwise.{pointwise}
use borrow.Author.Tests.{eq-eqb, eqb-true}
use Rattle.octets.proofs.Tests.{and_true_left, and_true_right}
use Rattle.octets.specs.Same.{same, SameIsEqual}

and_no : (b : Bool) → (b && false) ≡ false
and_no true = refl
and_no false = refl

same_alike : (s : List ℕ) → same s s ≡ true
unfolding same
same_alike [] = refl
same_alike (x ∷ xs) = simp (eq-eqb x x refl) (same_alike xs)

same_equal : (s t : List ℕ) → same s t ≡ true → s ≡ t
unfolding same
same_equal [] [] h = refl
same_equal (x ∷ xs) (y ∷ ys) h =
    let head : x ≡ y = eqb-true x y (and_true_left (eqb x y) (same xs ys) h) in
    let tail : xs ≡ ys = same_equal xs ys (and_true_right (eqb x y) (same xs ys) h) in
    cc
same_equal (x ∷ xs) [] h = absurd (false≢true h)
same_equal [] (y ∷ ys) h = absurd (false≢true h)

pub same_is_equal : SameIsEqual
same_is_equal s t = (same_equal s t, λ e. rw e (same_alike t))

-- what the slices' own comparison says
pub pointwise_same : (s t : List ℕ) → pointwise eqb s t ≡ same s t
unfolding same
pointwise_same [] [] = refl
pointwise_same (x ∷ xs) (y ∷ ys) = ap (λ b. eqb x y && b) (pointwise_same xs ys)
pointwise_same (x ∷ xs) [] = refl
pointwise_same [] (y ∷ ys) = refl
