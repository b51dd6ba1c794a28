-- What the first octets of an input look like, which may be of another kind than was said.
use Rattle.std.specs.Prelude.{ℕ, Bool, true, false, not, ◌&&◌, ◌||◌, List, [], ◌∷◌, length, ◌==◌, nat_le, nat_lt}
use Rattle.octets.specs.Numbers.{at, four}
use Rattle.octets.specs.Parts.{part}
use Rattle.octets.specs.Pick.{pick}
use Rattle.kiss.specs.Stream.{mark}
use Rattle.faults.specs.declared.start.Look.{Look}
use Rattle.faults.specs.declared.start.Look.TheVariants as look

-- Bits, one to an octet.
abbrev pub alone : List ℕ → Bool
alone [] = true
alone (c ∷ s) = nat_le c 1 && alone s

-- One of the octets is not 0.
abbrev pub one_among : List ℕ → Bool
one_among [] = false
one_among (c ∷ s) = not (c == 0) || one_among s

-- The first sixteen octets are bits, and not all 0, as eight bits to an octet may begin.
abbrev pub bit_octets : List ℕ → Bool
bit_octets s = pick (nat_lt (length s) 16) false (alone (part s 0 16) && one_among (part s 0 16))

-- The first octet is the one that stands between the frames of a KISS stream.
abbrev pub starts_kiss : List ℕ → Bool
starts_kiss s = pick (length s == 0) false (at s 0 == mark)

-- A recording's settings: the count 1, and t, at most 8.
abbrev pub starts_recording : List ℕ → Bool
starts_recording s = pick (nat_lt (length s) 5) false (four (at s 0) (at s 1) (at s 2) (at s 3) == 1 && nat_le (at s 4) 8)

unfoldable pub look_of : List ℕ → Look
look_of s = pick (starts_kiss s) look.Kiss (pick (bit_octets s) look.Bit (pick (starts_recording s) look.Recording look.Nothing))
