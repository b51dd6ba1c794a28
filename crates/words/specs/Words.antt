-- A line of text: its first word, what stands behind it, and the number that a word is.
use Rattle.std.specs.Prelude.{ℕ, Bool, false, ◌||◌, List, [], ◌∷◌, length, eqb, ltb}
use Rattle.octets.specs.Pick.{pick}
use Rattle.decimal.specs.Text.{value_after}
use Rattle.decimal.specs.Read.{no_digit}

-- A space.
abbrev pub space : ℕ
space = 32

-- The octets before the first space; all if there is none.
unfoldable pub word_of : List ℕ → List ℕ
word_of [] = []
word_of (x ∷ s) = pick (eqb x space) [] (x ∷ word_of s)

-- The octets behind the first space; none if there is none.
unfoldable pub rest_of : List ℕ → List ℕ
rest_of [] = []
rest_of (x ∷ s) = pick (eqb x space) s (rest_of s)

-- No number that a line can give, and no number of octets: the largest of an index's width.
abbrev pub none : ℕ
none = 18446744073709551615

-- The largest number that a line can give.
abbrev pub largest : ℕ
largest = 999999

-- Whether any octet is no decimal digit.
unfoldable pub other_than_digits : List ℕ → Bool
other_than_digits [] = false
other_than_digits (x ∷ s) = no_digit x || other_than_digits s

-- The number that decimal digits show, one digit at least, leading zeros or not; none of anything else, and above the largest.
unfoldable pub number_of : List ℕ → ℕ
number_of s = pick (eqb (length s) 0) none (pick (other_than_digits s) none (pick (ltb largest (value_after 0 s)) none (value_after 0 s)))
