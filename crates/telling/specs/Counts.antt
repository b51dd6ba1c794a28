-- How many there were, by their numbers.
use Rattle.std.specs.Prelude.{ℕ, ◌+◌, ◌%◌, ◌^◌, List, [], ◌∷◌, drop, ◌==◌, slice_set}
use Rattle.octets.specs.Numbers.{at}
use Rattle.octets.specs.Pick.{pick}

-- One more of this number; a count has 64 bits.
unfoldable pub counted : List ℕ → ℕ → List ℕ
counted counts n = slice_set counts n ((at counts n + 1) % 2 ^ 64)

-- How many there were none of before the first of which there were any.
abbrev pub none_before : List ℕ → ℕ
none_before [] = 0
none_before (n ∷ counts) = pick (n == 0) (1 + none_before counts) 0

-- The next number from one on of which there were any; if there is none, that behind the last.
unfoldable pub next_of : List ℕ → ℕ → ℕ
next_of counts from = from + none_before (drop from counts)
