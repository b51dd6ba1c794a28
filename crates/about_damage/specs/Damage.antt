-- What damage is: octets that became others, as many. Bits are numbered in the order in which the check takes them, its own octets' last.
use Rattle.std.specs.Prelude.{ℕ, suc, ◌+◌, ◌<◌, ◌≡◌, Bool, true, false, List, [], ◌∷◌, length, take, drop}
use Rattle.octets.specs.Numbers.{at}
use Rattle.bits.specs.Rows.{plus, odd, Order, bits_of_all}

-- The bits that changed: a row with a 1 for each, and a 0 for every other bit.
abbrev pub changes : Order → List ℕ → List ℕ → List Bool
changes o was became = plus (bits_of_all o was) (bits_of_all o became)

-- How many there are.
abbrev pub count : List Bool → ℕ
count [] = 0
count (false ∷ row) = count row
count (true ∷ row) = suc (count row)

-- They lie within n bits that neighbour each other: none stands before the first of these, none behind the last.
pub record Within (n : ℕ) (row : List Bool) : Type 0 where
  pub from : ℕ
  pub before : count (take from row) ≡ 0
  pub behind : count (drop (from + n) row) ≡ 0

-- What a check always shows: an odd number of bits, any two, any set of one or more within 16 neighbours.
pub data Shown (row : List Bool) : Type 0 where
  oddly : odd (count row) ≡ true → Shown row
  two : count row ≡ 2 → Shown row
  near : 0 < count row → Within 16 row → Shown row

-- Octets that became others, as many, and were so damaged.
pub record Damaged (o : Order) (was became : List ℕ) : Type 0 where
  pub octets : (i : ℕ) → at was i < 256
  pub others : (i : ℕ) → at became i < 256
  pub same : length became ≡ length was
  pub bits : Shown (changes o was became)
