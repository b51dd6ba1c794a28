-- Document 02, M-105: the frames in a recording of raw bits, over the whole of it.
use Rattle.std.specs.Prelude.{ℕ, zero, suc, ◌/◌, ◌%◌, Bool, true, false, not, ◌&&◌, ◌||◌, cond, length, take, drop, eqb}
use mathlib.Core.List.{List, [], ◌∷◌, tail, drop_last, flat_map}
use Rattle.octets.specs.Pick.{pick}
use Rattle.bits.specs.Rows.{ones, number_of, bits_of_all}
use Rattle.bits.specs.Rows.Order.{high_first, low_first}
use Rattle.answer.specs.Refusals.{stretch_octets, stretch_abandoned}
use Rattle.stretch.specs.Stretch.{Stretch, found, unread}

-- ---- flags

abbrev pub flag : List Bool
flag = false ∷ true ∷ true ∷ true ∷ true ∷ true ∷ true ∷ false ∷ []

abbrev pub alike : Bool → Bool → Bool
alike true b = b
alike false b = not b

-- Whether the row s begins with the row w, and whether w stands anywhere in it.
abbrev pub begins : List Bool → List Bool → Bool
begins [] s = true
begins (x ∷ w) [] = false
begins (x ∷ w) (y ∷ s) = alike x y && begins w s

abbrev pub contains : List Bool → List Bool → Bool
contains w [] = begins w []
contains w (b ∷ s) = begins w (b ∷ s) || contains w s

-- The bit b before the first of some rows.
abbrev pub onto : Bool → List (List Bool) → List (List Bool)
onto b [] = []
onto b (p ∷ ps) = (b ∷ p) ∷ ps

-- What stands before the first flag, between two neighbours, and behind the last. Flags are found from the earliest bit on, and of one that
-- is
-- found k bits are still to pass before the next is sought, so that no two have a bit in common.
abbrev pub pieces : ℕ → List Bool → List (List Bool)
pieces k [] = [] ∷ []
pieces (suc k) (b ∷ s) = pieces k s
pieces zero (b ∷ s) = cond (begins flag (b ∷ s)) ([] ∷ pieces 7 s) (onto b (pieces zero s))

-- The stretches between two neighbouring flags: bits before the first flag and after the last are ignored.
abbrev pub stretches : List Bool → List (List Bool)
stretches s = drop_last (tail (pieces 0 s))

-- ---- a stretch

-- Seven 1s in a row, or six at its beginning.
unfoldable pub abandoned : List Bool → Bool
abandoned s = begins (ones 6) s || contains (ones 7) s

-- The 0 behind each five 1s is removed; k 1s in a row stand before.
abbrev pub destuffed : ℕ → List Bool → List Bool
destuffed k [] = []
destuffed k (true ∷ s) = true ∷ destuffed (suc k) s
destuffed k (false ∷ s) = cond (eqb k 5) (destuffed 0 s) (false ∷ destuffed 0 s)

-- The first n octets of a row, low bit first; all of them that are whole.
abbrev pub low_octets : ℕ → List Bool → List ℕ
low_octets zero r = []
low_octets (suc n) r = number_of low_first (take 8 r) ∷ low_octets n (drop 8 r)

abbrev pub octets_of : List Bool → List ℕ
octets_of r = low_octets (length r / 8) r

-- The bits that are left of a stretch: 16 if they are not whole octets.
unfoldable pub left : List Bool → Stretch
left r = pick (eqb (length r % 8) 0) (found (octets_of r)) (unread stretch_octets)

-- What a stretch is: nothing if it has no bits; 17 if it is abandoned, then 16, else a frame.
unfoldable pub stretch_of : List Bool → List Stretch
stretch_of [] = []
stretch_of (b ∷ s) = pick (abandoned (b ∷ s)) (unread stretch_abandoned) (left (destuffed 0 (b ∷ s))) ∷ []

-- ---- the recording

-- What stands in the octets of a recording, whose earliest bit is in the top of its octet.
abbrev pub stretches_in : List ℕ → List Stretch
stretches_in s = flat_map stretch_of (stretches (bits_of_all high_first s))
