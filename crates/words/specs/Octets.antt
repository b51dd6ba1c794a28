-- Octets written as hexadecimal digits, two each, the high one first.
use Rattle.std.specs.Prelude.{ℕ, ◌+◌, ◌-◌, ◌*◌, ◌/◌, ◌%◌, Bool, false, not, ◌&&◌, ◌||◌, List, [], ◌∷◌, length, eqb, ltb, leb}
use Rattle.octets.specs.Pick.{pick}
use Rattle.octets.specs.Parts.{written}
use Rattle.words.specs.Words.{none}

-- The number of a hexadecimal digit, 0 to 9, A to F or a to f; 16 of any other octet.
abbrev pub between : ℕ → ℕ → ℕ → Bool
between low high x = leb low x && leb x high

unfoldable pub digit_of : ℕ → ℕ
digit_of x =
    pick (between 48 57 x) (x - 48) (pick (between 65 70 x) (x - 65 + 10) (pick (between 97 102 x) (x - 97 + 10) 16))

-- Whether any octet is no hexadecimal digit.
unfoldable pub other_than_hex : List ℕ → Bool
other_than_hex [] = false
other_than_hex (x ∷ s) = ltb 15 (digit_of x) || other_than_hex s

-- The octets of digits.
unfoldable pub octets_of : List ℕ → List ℕ
octets_of [] = []
octets_of (x ∷ []) = []
octets_of (x ∷ y ∷ s) = (digit_of x * 16 + digit_of y) ∷ octets_of s

-- No octets that a room takes: an odd number of digits, more than it has place for, or another octet among them.
unfoldable pub hex_wrong : List ℕ → ℕ → Bool
hex_wrong s room = not (eqb (length s % 2) 0) || (ltb room (length s / 2) || other_than_hex s)

-- How many octets, and the room afterwards: they stand at its start, and beyond them it stays; none, and it stays whole, if they are wrong.
unfoldable pub hex_count : List ℕ → ℕ → ℕ
hex_count s room = pick (hex_wrong s room) none (length s / 2)

unfoldable pub hex_left : List ℕ → List ℕ → List ℕ
hex_left s out = pick (hex_wrong s (length out)) out (written (octets_of s) out)
