-- What private functions promise: eight bits taken at once, where no five 1s in a row come about.
use Rattle.std.specs.Prelude.{ℕ, suc, ◌+◌, ◌-◌, ◌*◌, ◌/◌, ◌%◌, ◌^◌, ◌<◌, ◌≡◌, Bool, true, false, ◌&&◌, ◌||◌, List, [], ◌∷◌, length, drop, set, ltb, leb, eqb}
use Rattle.octets.specs.Numbers.{at}
use Rattle.bits.specs.Rows.{ones, bits_of, number_of}
use Rattle.bits.specs.Rows.Order.{high_first, low_first}
use Rattle.rawbits.specs.Recording.{begins}
use Rattle.rawbits.specs.Reader.{Standing, standing, row, counted}
use Rattle.rawbits.specs.declared.Row.{Row}

-- An octet's entry: how many 1s its bits begin with, or 8 if five stand in a row among them; how many they end with; and the number that
-- they
-- are with the earliest as the lowest.
abbrev pub lead : ℕ → ℕ
lead entry = entry / 4096

abbrev pub trail : ℕ → ℕ
trail entry = entry / 256 % 16

abbrev pub low : ℕ → ℕ
low entry = entry % 256

-- The octet that eight bits more make whole.
abbrev pub filled : Row → ℕ → ℕ
filled r entry = (low entry * 256 + r.last) / 2 ^ (8 - r.begun) % 256

unfoldable pub eight_passed : Standing → ℕ → Standing
eight_passed a entry =
    let r = a.reader.row in
    standing
    (record {
      seen = a.reader.seen;
      ones = trail entry;
      abandoned = a.reader.abandoned;
      mark = (r.begun + 15 - trail entry) % 8;
      row = row (low entry) r.begun (counted (length a.kept) r.whole);
    })
    (set a.kept r.whole (filled r entry))

-- ---- the table

-- k 1s in a row, then s: no five in a row.
abbrev pub calm : ℕ → List Bool → Bool
calm k [] = true
calm k (true ∷ s) = ltb k 4 && calm (suc k) s
calm k (false ∷ s) = calm 0 s

-- An entry that says of eight bits what it is to say.
unfoldable pub says_right : List Bool → ℕ → Bool
says_right s entry =
    eqb (low entry) (number_of low_first s)
    && (leb 5 (lead entry) || calm (4 - lead entry) s && leb (trail entry) 7 && begins (false ∷ ones (trail entry))
    (drop (7 - trail entry) s))

-- The table has an entry of each octet, and each is right.
pub record Eights (table : List ℕ) : Type 0 where
  pub all : length table ≡ 256
  pub each : (x : ℕ) → x < 256 → says_right (bits_of high_first 8 x) (at table x) ≡ true
