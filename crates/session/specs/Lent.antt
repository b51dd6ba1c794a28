-- What is lent to a step, and how packets are handed out in it.
use Rattle.std.specs.Prelude.{ℕ, ◌≤◌, List, map, Bool, ◌||◌, length, ltb}
use Rattle.octets.specs.Parts.{written}
use Rattle.rules.specs.Limits.{most_packets, most_octets}
use Rattle.rules.specs.Channel.{Handed}
use Rattle.rules.specs.Packets.{bare, joined, firsts}

-- Octets for the packets, a list for their lengths, and one for the arrival numbers of the frames with their first octets.
pub record Lent : Type 0 where
  pub octets : List ℕ
  pub lengths : List ℕ
  pub firsts : List ℕ

abbrev pub lent : List ℕ → List ℕ → List ℕ → Lent
lent octets lengths firsts = record { octets = octets; lengths = lengths; firsts = firsts }

-- Refusal 1: under 501 octets, or under 16 lengths, or under 16 first numbers.
abbrev pub scant : Lent → Bool
scant l = ltb (length l.octets) most_octets || ltb (length l.lengths) most_packets || ltb (length l.firsts) most_packets

-- Which is enough for all that a frame completes.
pub record Enough (l : Lent) : Type 0 where
  pub octets : most_octets ≤ length l.octets
  pub lengths : most_packets ≤ length l.lengths
  pub firsts : most_packets ≤ length l.firsts

-- Packets one after another at the start of the lent octets, their lengths and first numbers at the start of the lent lists; all beyond
-- stays.
abbrev pub laid : List Handed → Lent → Lent
laid ps l =
    lent (written (joined (bare ps)) l.octets) (written (map length (bare ps)) l.lengths) (written (firsts ps) l.firsts)
