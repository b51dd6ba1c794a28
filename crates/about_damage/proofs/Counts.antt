-- Rows of bits by how many of them are 1.
use Prim.Native.Nat.{ℕ, zero, suc, ◌+◌, ◌-◌, ◌%◌, ◌<◌}
use native.Mathlib.Nat.{suc_inj, suc-ne-zero, mod-lt, zero-add, suc-add}
use native.Mathlib.Omega.{arith}
use mathlib.Core.Path.{◌≡◌, refl, sym, ap, ◌∙◌}
use mathlib.Core.Bool.{Bool, true, false, not}
use mathlib.Core.List.{List, [], ◌∷◌, ◌++◌}
use lib.ListN.{length}
use lib.Dec.{eqb, lit<}
use Rattle.bits.specs.Rows.{◌⊕◌, plus, zeros, odd}
use Rattle.bits.proofs.Rows.{⊕-swap}
use Rattle.about_damage.specs.Damage.{count}

pub count-append : (xs ys : List Bool) → count (xs ++ ys) ≡ count xs + count ys
count-append [] ys = sym (zero-add (count ys))
count-append (false ∷ xs) ys = count-append xs ys
count-append (true ∷ xs) ys = ap suc (count-append xs ys) ∙ sym (suc-add (count xs) (count ys))

-- a row without a 1
pub count_none : (row : List Bool) → count row ≡ 0 → row ≡ zeros (length row)
count_none [] h = refl
count_none (false ∷ row) h = ap (λ (r : List Bool). false ∷ r) (count_none row h)
count_none (true ∷ row) h = absurd (suc-ne-zero (count row) h)

-- ---- the sum of a row's bits says whether the 1s are odd

abbrev pub parity : List Bool → Bool
parity [] = false
parity (b ∷ bs) = b ⊕ parity bs

odd-more : (n : ℕ) → odd (suc n) ≡ not (odd n)
odd-more n = other (n % 2) (suc n % 2) (mod-lt n (lit< tt)) (omega arith)
  where
    other : (a b : ℕ) → a < 2 → b ≡ 1 - a → eqb b 1 ≡ not (eqb a 1)
    other zero b h e = ap (λ (x : ℕ). eqb x 1) e
    other (suc zero) b h e = ap (λ (x : ℕ). eqb x 1) e
    other (suc (suc a)) b h e = absurd (omega arith)

pub parity_odd : (row : List Bool) → parity row ≡ odd (count row)
parity_odd [] = refl
parity_odd (false ∷ row) = parity_odd row
parity_odd (true ∷ row) = ap not (parity_odd row) ∙ sym (odd-more (count row))

pub parity_plus : (xs ys : List Bool) → length xs ≡ length ys → parity (plus xs ys) ≡ parity xs ⊕ parity ys
parity_plus [] [] e = refl
parity_plus [] (y ∷ ys) e = absurd (suc-ne-zero (length ys) (sym e))
parity_plus (x ∷ xs) [] e = absurd (suc-ne-zero (length xs) e)
parity_plus (x ∷ xs) (y ∷ ys) e =
    ap (λ (b : Bool). (x ⊕ y) ⊕ b) (parity_plus xs ys (suc_inj e)) ∙ ⊕-swap x y (parity xs) (parity ys)

pub parity_snoc : (xs : List Bool) → parity (xs ++ (false ∷ [])) ≡ parity xs
parity_snoc [] = refl
parity_snoc (x ∷ xs) = ap (λ (b : Bool). x ⊕ b) (parity_snoc xs)
