-- Two rows of octets compared.
use Rattle.std.specs.Prelude.{ℕ, ◌≡◌, Bool, true, false, ◌&&◌, List, [], ◌∷◌, eqb}

-- Whether two rows of octets are equal.
unfoldable pub same : List ℕ → List ℕ → Bool
same [] [] = true
same (x ∷ xs) (y ∷ ys) = eqb x y && same xs ys
same (x ∷ xs) [] = false
same [] (y ∷ ys) = false

abbrev pub SameIsEqual : Type 0
SameIsEqual = (s t : List ℕ) → (same s t ≡ true → s ≡ t) × (s ≡ t → same s t ≡ true)
