-- Names that stand twice in a layout.
use Rattle.std.specs.Prelude.{ℕ, zero, suc, ◌+◌, ◌-◌, Bool, false, not, ◌&&◌, ◌||◌, List, [], ◌∷◌, length, eqb, Option, Some, None}
use Rattle.octets.specs.Numbers.{at}
use Rattle.octets.specs.Parts.{part}
use Rattle.octets.specs.Pick.{pick}
use Rattle.octets.specs.Same.{same}

-- The name of entry j: octets of the text.
abbrev pub names_of : List ℕ → List ℕ → List ℕ → ℕ → List ℕ
names_of text froms tos j = part text (at froms j) (at tos j - at froms j)

-- Entries j and k have one name, which has octets.
unfoldable pub same_name : (ℕ → List ℕ) → ℕ → ℕ → Bool
same_name names j k = not (eqb (length (names k)) 0) && same (names j) (names k)

-- Whether one of n numbers from j on passes a test, and the first that does.
abbrev pub any_of : (ℕ → Bool) → ℕ → ℕ → Bool
any_of p zero j = false
any_of p (suc n) j = p j || any_of p n (suc j)

abbrev pub first_of : (ℕ → Bool) → ℕ → ℕ → Option ℕ
first_of p zero j = None
first_of p (suc n) j = pick (p j) (Some j) (first_of p n (suc j))

-- Whether an entry from number `from` on, before entry k, has its name.
unfoldable pub earlier : (ℕ → List ℕ) → ℕ → ℕ → Bool
earlier names from k = any_of (λ j. same_name names j k) (k - from) from

-- The first of the entries from number `from` up to `to` whose name one of them before it has.
unfoldable pub first_within : (ℕ → List ℕ) → ℕ → ℕ → Option ℕ
first_within names from to = first_of (earlier names from) (to - from) from

-- What is found first in n layouts from layout i on.
abbrev pub or_else : Option ℕ → Option ℕ → Option ℕ
or_else (Some k) later = Some k
or_else None later = later

abbrev pub in_layouts : (ℕ → Option ℕ) → ℕ → ℕ → Option ℕ
in_layouts f zero i = None
in_layouts f (suc n) i = or_else (f i) (in_layouts f n (suc i))

-- The first entry whose name an entry of its layout before it has: layout i has the entries from its start up to the next one's.
unfoldable pub first_repeated : (ℕ → List ℕ) → List ℕ → ℕ → Option ℕ
first_repeated names starts n = in_layouts (λ i. first_within names (at starts i) (at starts (suc i))) n 0

-- How many lines end in octets.
abbrev pub is_newline : ℕ → ℕ
is_newline c = pick (eqb c 10) 1 0

abbrev pub newlines : List ℕ → ℕ
newlines [] = 0
newlines (c ∷ s) = is_newline c + newlines s
