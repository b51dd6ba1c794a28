-- What private functions promise, and what they ask of their callers.
use Rattle.std.specs.Prelude.{ℕ, suc, ◌+◌, ◌*◌, ◌≤◌, ◌<◌, ◌≡◌, Bool, true, false, cond, List, [], ◌∷◌, ◌++◌, length, take, drop, ltb}
use Rattle.octets.specs.Pick.{pick}
use Rattle.bits.specs.Rows.{bits_of_all}
use Rattle.bits.specs.Rows.Order.{low_first}
use Rattle.bits.specs.Field.{high_bits, row_of}
use Rattle.rules.specs.Packets.{cut, total}
use Rattle.rawbits_writer.specs.Stream.{stuffed, any_outside, stream_of}
use Rattle.rawbits_writer.specs.declared.laying.Pen.{Pen}

-- ---- a pen

abbrev pub pen : ℕ → ℕ → ℕ → ℕ → Pen
pen at held bits ones = record { at = at; held = held; bits = bits; ones = ones }

abbrev pub start : ℕ → Pen
start ones = pen 0 0 0 ones

-- The bits that it holds.
unfoldable pub held_by : Pen → List Bool
held_by p = high_bits p.bits p.held

-- All bits before it.
abbrev pub penned : Pen → List ℕ → List Bool
penned p out = row_of (take p.at out) ++ held_by p

-- How many they are.
abbrev pub place : Pen → ℕ
place p = p.at * 8 + p.bits

-- ---- bits of a frame

unfoldable pub with_bit : Pen → Bool → Pen
with_bit p false = pen p.at (p.held * 2) (p.bits + 1) 0
with_bit p true =
    pick (ltb p.ones 4) (pen p.at (p.held * 2 + 1) (p.bits + 1) (p.ones + 1)) (pen p.at (p.held * 4 + 2) (p.bits + 2) 0)

abbrev pub with_row : Pen → List Bool → Pen
with_row p [] = p
with_row p (b ∷ s) = with_row (with_bit p b) s

-- A frame's octets, stuffed behind the 1s before the pen.
abbrev pub body_from : Pen → List ℕ → List Bool
body_from p f = stuffed p.ones (bits_of_all low_first f)

-- How many 1s in a row stand behind a row where k stand before it, stuffed.
abbrev pub after : ℕ → List Bool → ℕ
after k [] = k
after k (false ∷ s) = after 0 s
after k (true ∷ s) = cond (ltb k 4) (after (suc k) s) (after 0 s)

-- ---- what is asked

-- One bit more can be held.
pub record Few (p : Pen) : Type 0 where
  pub small : p.held < 4194304
  pub few : p.bits ≤ 21

-- No whole octet is held.
pub record Ready (p : Pen) : Type 0 where
  pub small : p.held < 128
  pub few : p.bits < 8

-- Room for the octets that the bits held and the row w fill.
pub record Room (p : Pen) (out : List ℕ) (w : List Bool) : Type 0 where
  pub few : p.bits ≤ 24
  pub room : place p + length w ≤ length out * 8 + 7

-- Frames end to end with their lengths, all from 23 to 274.
pub record Frames (octets lengths : List ℕ) : Type 0 where
  pub adds : total lengths ≡ length octets
  pub inside : any_outside lengths ≡ false

-- The same, and room for the stream.
pub record FramesRoom (octets lengths out : List ℕ) : Type 0 where
  pub adds : total lengths ≡ length octets
  pub room : length (stream_of (cut octets lengths)) ≤ length out

-- ---- what is promised

-- The row w is written, and behind it the pen r stands behind so many 1s; beyond it out stays.
pub record Writes (p : Pen) (out : List ℕ) (w : List Bool) (ones : ℕ) (r : Pen) (out' : List ℕ) : Type 0 where
  pub adds : penned r out' ≡ penned p out ++ w
  pub moves : place r ≡ place p + length w
  pub beyond : drop r.at out' ≡ drop r.at out
  pub ready : Ready r
  pub run : r.ones ≡ ones
