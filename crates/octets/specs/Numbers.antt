-- Numbers as octets, high octet first.
use Rattle.std.specs.Prelude.{ℕ, ◌+◌, ◌*◌, ◌/◌, ◌%◌, List, [], ◌∷◌, get_or}

-- The octet at index i of s, 0 past its end.
abbrev pub at : List ℕ → ℕ → ℕ
at s i = get_or s i 0

abbrev pub word : ℕ → ℕ → ℕ
word high low = high * 256 + low

abbrev pub four : ℕ → ℕ → ℕ → ℕ → ℕ
four a b c d = word (word (word a b) c) d

abbrev pub five : ℕ → ℕ → ℕ → ℕ → ℕ → ℕ
five a b c d e = word (four a b c d) e

abbrev pub word_of : ℕ → List ℕ
word_of n = (n / 256) ∷ (n % 256) ∷ []

abbrev pub four_of : ℕ → List ℕ
four_of n = (n / 256 / 256 / 256) ∷ (n / 256 / 256 % 256) ∷ (n / 256 % 256) ∷ (n % 256) ∷ []

abbrev pub five_of : ℕ → List ℕ
five_of n =
    (n / 256 / 256 / 256 / 256 % 256) ∷ (n / 256 / 256 / 256 % 256) ∷ (n / 256 / 256 % 256) ∷ (n / 256 % 256) ∷ (n % 256) ∷ []
