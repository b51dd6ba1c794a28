-- What the crate's private functions ask of their callers.
use Rattle.std.specs.Prelude.{ℕ, ◌+◌, ◌≤◌, ◌≡◌, List, length}
use Rattle.packet.specs.Limits.{least_length, longest_source, last_apid, last_count, last_time}
use Rattle.packet.specs.declared.Packet.{Packet}

-- Fields that are right for n octets of source data.
pub record InRange (p : Packet) (n : ℕ) : Type 0 where
  pub apid : p.apid ≤ last_apid
  pub count : p.sequence.0 ≤ last_count
  pub time : p.time ≤ last_time
  pub length : n ≤ longest_source
  pub same : p.length ≡ n

-- The same, and room for the packet.
pub record Room (p : Packet) (source out : List ℕ) : Type 0 where
  pub range : InRange p p.length
  pub few : length source ≤ longest_source
  pub room : length source + least_length ≤ length out
