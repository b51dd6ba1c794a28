-- Rows of bits, and numbers and octets as rows of bits in either order. A row is a list, read in the order in which its bits travel.
use Rattle.std.specs.Prelude.{Bool, true, false, not, List, [], ◌∷◌, ◌++◌, reverse, ℕ, zero, suc, ◌+◌, ◌*◌, ◌/◌, ◌%◌, eqb}

infixl 20 ◌⊕◌
-- ---- bits, and rows of bits

-- The sum modulo 2.
abbrev pub ◌⊕◌ : Bool → Bool → Bool
false ⊕ b = b
true ⊕ b = not b

-- Place by place, of two rows that are as long.
abbrev pub plus : List Bool → List Bool → List Bool
plus [] ys = []
plus (x ∷ xs) [] = []
plus (x ∷ xs) (y ∷ ys) = (x ⊕ y) ∷ plus xs ys

-- Rows of n zeros, and of n ones.
abbrev pub zeros : ℕ → List Bool
zeros zero = []
zeros (suc n) = false ∷ zeros n

abbrev pub ones : ℕ → List Bool
ones zero = []
ones (suc n) = true ∷ ones n

-- ---- the order of a number's bits

pub data Order : Type 0 where
  high_first : Order
  low_first : Order

-- A row that has the low bit first, in the order; and back.
abbrev pub ordered : Order → List Bool → List Bool
ordered high_first bs = reverse bs
ordered low_first bs = bs

abbrev pub odd : ℕ → Bool
odd n = eqb (n % 2) 1

abbrev pub digit : Bool → ℕ
digit false = 0
digit true = 1

-- The k low binary digits of n, the low one first; and back.
abbrev pub digits_of : ℕ → ℕ → List Bool
digits_of zero n = []
digits_of (suc k) n = odd n ∷ digits_of k (n / 2)

abbrev pub value_of : List Bool → ℕ
value_of [] = 0
value_of (b ∷ bs) = value_of bs * 2 + digit b

-- The k bits of the number n, and the number that a row of bits is.
abbrev pub bits_of : Order → ℕ → ℕ → List Bool
bits_of o k n = ordered o (digits_of k n)

abbrev pub number_of : Order → List Bool → ℕ
number_of o bs = value_of (ordered o bs)

-- The bits of octets, as they travel.
abbrev pub bits_of_all : Order → List ℕ → List Bool
bits_of_all o [] = []
bits_of_all o (x ∷ xs) = bits_of o 8 x ++ bits_of_all o xs
