-- What the crate's private functions ask of their callers, and what the search for the next packet promises.
use Rattle.std.specs.Prelude.{◌≡◌, ℕ, ◌+◌, ◌-◌, ◌*◌, ◌<◌, ◌≤◌, Bool, false, ◌||◌, List, length, take, nat_le, nat_lt}
use Rattle.octets.specs.Parts.{written}
use Rattle.frame.specs.Limits.{least_length, longest_data}
use Rattle.rules.specs.Channel.{pointer_to}
use Rattle.rules.specs.Packets.{AllGood, joined, total}
use Rattle.sender.specs.Sender.{sent_octets}
use Rattle.sender.specs.Frames.{Wanted, packets_of, framed, full_frames}
use Rattle.sender.specs.Send.{Lent, common_wrong, octets_of}
use Rattle.sender.specs.declared.Common.{Common}

-- Of packets of these lengths, packet i starts at `start` (or they all end there), and the one before it before `at`.
pub record Begun (lengths : List ℕ) (at i start : ℕ) : Type 0 where
  pub inside : i ≤ length lengths
  pub starts : start ≡ total (take i lengths)
  pub before : 0 < i → total (take (i - 1) lengths) < at

-- The same, and it is the first that starts at `at` or behind.
pub record First (lengths : List ℕ) (at i start : ℕ) : Type 0 where
  pub begun : Begun lengths at i start
  pub behind : at ≤ start

-- A place within packets of these lengths, whose octets can be counted.
pub record Within (lengths : List ℕ) (at : ℕ) : Type 0 where
  pub within : at ≤ total lengths
  pub counted : total lengths ≤ 18446744073709551615

-- Fields in range, n octets of the packets' from `at` on that a frame can take, and room for the frame.
pub record Frameable (c : Common) (master count : ℕ) (time octets : List ℕ) (at n : ℕ) (out : List ℕ) : Type 0 where
  pub fields : common_wrong c master count time ≡ false
  pub within : at + n ≤ length octets
  pub few : n ≤ longest_data c.t
  pub room : n + least_length + c.t ≤ length out

-- What writing it answers and leaves: its length, and its octets with what stood beyond them.
pub record Framing (c : Common) (master count : ℕ) (time xs : List ℕ) (place : ℕ) (out : List ℕ) (r : ℕ) (out' : List ℕ) : Type 0 where
  pub answers : r ≡ length xs + least_length + c.t
  pub leaves :
      out' ≡ written (sent_octets c.t (framed c time master
      (record { count = count; pointer = pointer_to place (length xs); octets = xs }))) out

-- Refusal 50 by numbers: less than n octets and the frames' own, or fewer lengths than frames.
abbrev pub too_short : ℕ → ℕ → ℕ → ℕ → ℕ → Bool
too_short octets lengths n full t = nat_lt octets (n + (full + 1) * (least_length + t)) || nat_le lengths full

-- Nothing to refuse, and so many frames before the last.
pub record Ready (w : Wanted) (full : ℕ) (l : Lent) : Type 0 where
  pub fields : common_wrong w.common w.master w.count w.time ≡ false
  pub adds : total w.lengths ≡ length w.octets
  pub good : AllGood (packets_of w)
  pub least : 0 < w.size
  pub greatest : w.size ≤ longest_data w.common.t
  pub before : full ≡ full_frames w.size (length w.octets)
  pub octets : length (joined (octets_of w)) ≤ length l.octets
  pub lengths : length (octets_of w) ≤ length l.lengths
