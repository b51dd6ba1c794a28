-- Document 02, M-110: what a stream of KISS octets holds.
use Rattle.std.specs.Prelude.{ℕ, List, [], ◌∷◌, ◌++◌, eqb}
use Rattle.std.proofs.Math.Option.{Option, none, some}
use Rattle.octets.specs.Pick.{pick}
use Rattle.bits.specs.Rows.{ones}
use Rattle.bits.specs.Rows.Order.{low_first}
use Rattle.crc.specs.Check.{with_check}
use Rattle.answer.specs.Refusals as no
use Rattle.stretch.specs.Stretch.{Stretch, found, unread}

-- 0xC0 stands between frames. Within them 0xDB 0xDC stands for 0xC0, and 0xDB 0xDD for 0xDB.
abbrev pub mark : ℕ
mark = 0xC0

abbrev pub escape : ℕ
escape = 0xDB

abbrev pub for_mark : ℕ
for_mark = 0xDC

abbrev pub for_escape : ℕ
for_escape = 0xDD

-- The type octet of data frames of port 0.
abbrev pub data_frame : ℕ
data_frame = 0x00

-- ---- what stands between two 0xC0

abbrev pub onto : ℕ → List (List ℕ) → List (List ℕ)
onto x [] = []
onto x (p ∷ ps) = (x ∷ p) ∷ ps

-- Octets parted at each 0xC0.
abbrev pub parted : List ℕ → List (List ℕ)
parted [] = [] ∷ []
parted (x ∷ s) = pick (eqb x mark) ([] ∷ parted s) (onto x (parted s))

-- All parts but the last; and without the first: octets before the first 0xC0 and after the last are ignored.
abbrev pub all_but_last : List (List ℕ) → List (List ℕ)
all_but_last [] = []
all_but_last (p ∷ []) = []
all_but_last (p ∷ q ∷ ps) = p ∷ all_but_last (q ∷ ps)

abbrev pub inner : List (List ℕ) → List (List ℕ)
inner [] = []
inner (p ∷ ps) = all_but_last ps

-- ---- what it is

abbrev pub with_first : ℕ → Option (List ℕ) → Option (List ℕ)
with_first x none = none
with_first x (some s) = some (x ∷ s)

-- Octets with their escapes taken off; none where an escape is wrong or cut.
unfoldable pub unescaped : List ℕ → Option (List ℕ)
unescaped [] = some []
unescaped (x ∷ []) = pick (eqb x escape) none (some (x ∷ []))
unescaped (x ∷ y ∷ s) =
    pick (eqb x escape)
    (pick (eqb y for_mark) (with_first mark (unescaped s)) (pick (eqb y for_escape) (with_first escape (unescaped s)) none))
    (with_first x (unescaped (y ∷ s)))

-- Behind the type octet stands a frame without its check, which is appended. Two adjacent marks give no stretch; 18 comes first, then 19.
abbrev pub typed : Option (List ℕ) → List Stretch
typed none = unread no.escape ∷ []
typed (some []) = []
typed (some (t ∷ f)) = pick (eqb t data_frame) (found (with_check low_first (ones 16) f)) (unread no.type_octet) ∷ []

abbrev pub stretch_of : List ℕ → List Stretch
stretch_of p = typed (unescaped p)

abbrev pub stretches_of : List (List ℕ) → List Stretch
stretches_of [] = []
stretches_of (p ∷ ps) = stretch_of p ++ stretches_of ps

-- The stretches of a stream, in order.
unfoldable pub stretches_in : List ℕ → List Stretch
stretches_in s = stretches_of (inner (parted s))

-- ---- octets as they are written

abbrev pub escaped_octet : ℕ → List ℕ
escaped_octet x = pick (eqb x mark) (escape ∷ for_mark ∷ []) (pick (eqb x escape) (escape ∷ for_escape ∷ []) (x ∷ []))

abbrev pub escaped : List ℕ → List ℕ
escaped [] = []
escaped (x ∷ s) = escaped_octet x ++ escaped s
