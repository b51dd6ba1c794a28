-- What the crate's private functions ask of their callers, and what they promise them.
use Rattle.std.specs.Prelude.{ℕ, ◌+◌, ◌≤◌, ◌≡◌, List, length, Option, Some, None}
use Rattle.frame.specs.Limits.{least_length, longest_time, last_channel, most_telecommands, last_ssid}
use Rattle.octets.specs.Pick.{pick}
use Rattle.frame.specs.Address.{first_wrong, address_wrong}
use Rattle.frame.specs.declared.Address.{Address}
use Rattle.frame.specs.declared.Frame.{Frame}

-- A frame long enough for its time.
pub record Whole (t : ℕ) (s : List ℕ) : Type 0 where
  pub time : t ≤ longest_time
  pub least : least_length + t ≤ length s

-- An address whose octets are octets.
pub record Fits (a : Address) : Type 0 where
  pub first : a.callsign.0 ≤ 90
  pub second : a.callsign.1 ≤ 90
  pub third : a.callsign.2 ≤ 90
  pub fourth : a.callsign.3 ≤ 90
  pub fifth : a.callsign.4 ≤ 90
  pub sixth : a.callsign.5 ≤ 90
  pub ssid : a.ssid ≤ last_ssid

-- Room for the first 20 octets.
pub record FrontRoom (f : Frame) (out : List ℕ) : Type 0 where
  pub channel : f.channel ≤ last_channel
  pub destination : Fits f.destination
  pub source : Fits f.source
  pub room : 20 ≤ length out

-- Room for the whole frame.
pub record Room (f : Frame) (t : ℕ) (d m out : List ℕ) : Type 0 where
  pub time : t ≤ longest_time
  pub telecommands : f.telecommands ≤ most_telecommands
  pub front : FrontRoom f out
  pub lent : length m ≡ t
  pub room : length d + least_length + t ≤ length out

-- The first wrong octet of an address, if one is wrong.
abbrev pub blamed : List ℕ → ℕ → Option ℕ
blamed s last = pick (address_wrong s last) (Some (first_wrong s last)) None
