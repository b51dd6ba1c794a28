-- Laws of rows of bits: their sum is commutative, associative, and its own inverse.
use mathlib.Core.Path.{◌≡◌, refl, sym, ap, ap₂, ◌∙◌}
use mathlib.Core.Bool.{Bool, true, false}
use mathlib.Core.List.{List, [], ◌∷◌, ◌++◌}
use Prim.Native.Nat.{ℕ, zero, suc}
use native.Mathlib.Nat.{suc_inj, suc-ne-zero}
use lib.ListN.{length}
use Rattle.bits.specs.Rows.{◌⊕◌, plus, zeros}

pub ⊕-false : (a : Bool) → a ⊕ false ≡ a
⊕-false false = refl
⊕-false true = refl

pub ⊕-self : (a : Bool) → a ⊕ a ≡ false
⊕-self false = refl
⊕-self true = refl

pub ⊕-comm : (a b : Bool) → a ⊕ b ≡ b ⊕ a
⊕-comm false false = refl
⊕-comm false true = refl
⊕-comm true false = refl
⊕-comm true true = refl

pub ⊕-assoc : (a b c : Bool) → (a ⊕ b) ⊕ c ≡ a ⊕ (b ⊕ c)
⊕-assoc false b c = refl
⊕-assoc true false c = refl
⊕-assoc true true false = refl
⊕-assoc true true true = refl

pub ⊕-swap : (a b c d : Bool) → (a ⊕ b) ⊕ (c ⊕ d) ≡ (a ⊕ c) ⊕ (b ⊕ d)
⊕-swap a b c d =
    ⊕-assoc a b (c ⊕ d)
    ∙ ap (λ (x : Bool). a ⊕ x) (sym (⊕-assoc b c d) ∙ ap (λ (x : Bool). x ⊕ d) (⊕-comm b c) ∙ ⊕-assoc c b d)
    ∙ sym (⊕-assoc a c (b ⊕ d))

-- ---- sums of rows

pub plus_comm : (xs ys : List Bool) → plus xs ys ≡ plus ys xs
plus_comm [] [] = refl
plus_comm [] (y ∷ ys) = refl
plus_comm (x ∷ xs) [] = refl
plus_comm (x ∷ xs) (y ∷ ys) = ap₂ {C = List Bool} (λ b bs. b ∷ bs) (⊕-comm x y) (plus_comm xs ys)

pub plus_assoc : (xs ys zs : List Bool) → plus (plus xs ys) zs ≡ plus xs (plus ys zs)
plus_assoc [] ys zs = refl
plus_assoc (x ∷ xs) [] zs = refl
plus_assoc (x ∷ xs) (y ∷ ys) [] = refl
plus_assoc (x ∷ xs) (y ∷ ys) (z ∷ zs) = ap₂ {C = List Bool} (λ b bs. b ∷ bs) (⊕-assoc x y z) (plus_assoc xs ys zs)

pub plus_swap : (a b c d : List Bool) → plus (plus a b) (plus c d) ≡ plus (plus a c) (plus b d)
plus_swap a b c d =
    plus_assoc a b (plus c d)
    ∙ ap (λ (x : List Bool). plus a x) (sym (plus_assoc b c d) ∙ ap (λ (x : List Bool). plus x d) (plus_comm b c) ∙ plus_assoc c b d)
    ∙ sym (plus_assoc a c (plus b d))

pub plus_self : (xs : List Bool) → plus xs xs ≡ zeros (length xs)
plus_self [] = refl
plus_self (x ∷ xs) = ap₂ {C = List Bool} (λ b bs. b ∷ bs) (⊕-self x) (plus_self xs)

pub plus-zeros : (xs : List Bool) → plus xs (zeros (length xs)) ≡ xs
plus-zeros [] = refl
plus-zeros (x ∷ xs) = ap₂ {C = List Bool} (λ b bs. b ∷ bs) (⊕-false x) (plus-zeros xs)

pub zeros-plus : (xs : List Bool) → plus (zeros (length xs)) xs ≡ xs
zeros-plus xs = plus_comm (zeros (length xs)) xs ∙ plus-zeros xs

pub length-plus : (xs ys : List Bool) → length xs ≡ length ys → length (plus xs ys) ≡ length xs
length-plus [] ys e = refl
length-plus (x ∷ xs) [] e = absurd (suc-ne-zero (length xs) e)
length-plus (x ∷ xs) (y ∷ ys) e = ap suc (length-plus xs ys (suc_inj e))

pub plus-append : (xs ys us vs : List Bool) → length xs ≡ length ys → plus (xs ++ us) (ys ++ vs) ≡ plus xs ys ++ plus us vs
plus-append [] [] us vs e = refl
plus-append [] (y ∷ ys) us vs e = absurd (suc-ne-zero (length ys) (sym e))
plus-append (x ∷ xs) [] us vs e = absurd (suc-ne-zero (length xs) e)
plus-append (x ∷ xs) (y ∷ ys) us vs e = ap (λ (r : List Bool). (x ⊕ y) ∷ r) (plus-append xs ys us vs (suc_inj e))

-- what is added twice is gone
pub plus_twice : (xs ys : List Bool) → length xs ≡ length ys → plus (plus xs ys) ys ≡ xs
plus_twice xs ys e =
    plus_assoc xs ys ys ∙ ap (plus xs) (plus_self ys ∙ ap zeros (sym e)) ∙ plus-zeros xs

-- ---- lengths

pub length-zeros : (n : ℕ) → length (zeros n) ≡ n
length-zeros zero = refl
length-zeros (suc n) = ap suc (length-zeros n)

pub length-snoc : (xs : List Bool) (x : Bool) → length (xs ++ (x ∷ [])) ≡ suc (length xs)
length-snoc [] x = refl
length-snoc (y ∷ xs) x = ap suc (length-snoc xs x)
