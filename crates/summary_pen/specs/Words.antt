-- What both forms of the summary are written with, as ASCII codes.
use Rattle.std.specs.Prelude.{ℕ, zero, suc, ◌+◌, ◌/◌, ◌%◌, List, [], ◌∷◌, ◌++◌, eqb}
use Prim.Native.Char.{code}
use Prim.Native.String.{String, [] as nothing, ◌∷◌ as ◌before◌}
use Rattle.octets.specs.Pick.{pick}
use Rattle.decimal.specs.Text.{decimal_below}

-- The codes of a string.
abbrev pub codes : String → List ℕ
codes nothing = []
codes (c before text) = code c ∷ codes text

-- The decimal digits of a counter: twenty at most.
unfoldable pub number : ℕ → List ℕ
number n = decimal_below 20 n

-- Words and a number behind them.
unfoldable pub told : List ℕ → ℕ → List ℕ
told words n = words ++ number n

-- The end of a line.
abbrev pub ended : List ℕ
ended = 10 ∷ []

-- A line of words and a number.
unfoldable pub row : List ℕ → ℕ → List ℕ
row words n = told words n ++ ended

-- A line of words and a number, and other words and another number.
unfoldable pub pair : List ℕ → List ℕ → ℕ → ℕ → List ℕ
pair words others i n = told words i ++ row others n

-- A line of how many packets there were of a key: its APID, its type, its subtype and their number, each behind words of its own.
unfoldable pub keyed : List ℕ → List ℕ → List ℕ → List ℕ → ℕ → ℕ → List ℕ
keyed apid service subtype many key n =
    told apid (key / 65536) ++ (told service (key / 256 % 256) ++ (told subtype (key % 256) ++ row many n))

-- Text that stands there if there is something to tell: if n is not 0.
unfoldable pub if_any : ℕ → List ℕ → List ℕ
if_any n text = pick (eqb n 0) [] text

-- So many texts, each by its number, from a first number on.
unfoldable pub each : ℕ → ℕ → (ℕ → List ℕ) → List ℕ
each zero from text = []
each (suc many) from text = text from ++ each many (from + 1) text
