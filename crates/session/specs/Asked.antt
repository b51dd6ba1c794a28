-- What the crate's private functions ask of their callers.
use Rattle.std.specs.Prelude.{ℕ, ◌+◌, ◌≤◌, ◌<◌, ◌≡◌, List, ◌++◌, Bool, false, length, drop}
use Rattle.frame.specs.Limits.{raw_data, none_starts}
use Rattle.rules.specs.Limits.{most_held, most_data, most_packets}
use Rattle.rules.specs.Channel.{standing, unfinished}
use Rattle.rules.specs.Bounds.{Sound}
use Rattle.rules.specs.Cutting.{cut_of}
use Rattle.session.specs.Channel.{channel_unsound}
use Rattle.session.specs.Lent.{Lent, Enough}
use Rattle.session.specs.declared.Channel.{Channel}

-- What is held begins a packet, and the data xs is no more than a frame has.
pub record Begun (held xs : List ℕ) : Type 0 where
  pub unfinished : standing held ≡ unfinished
  pub short : length held ≤ most_held
  pub few : length xs ≤ most_data

-- Lists with an entry for each packet.
pub record Counted (held xs lengths firsts : List ℕ) : Type 0 where
  pub begun : Begun held xs
  pub entries : length (cut_of (held ++ xs)).packets ≤ length lengths
  pub numbers : length (cut_of (held ++ xs)).packets ≤ length firsts

-- n octets of held and xs, which take up all that is held or are none, and room for them.
pub record Front (held xs : List ℕ) (n : ℕ) (out : List ℕ) : Type 0 where
  pub within : n ≤ length held + length xs
  pub past : n < length held → n ≡ 0
  pub room : n ≤ length out

-- The same, and what is behind them can be held.
pub record Left (held xs : List ℕ) (n : ℕ) : Type 0 where
  pub within : n ≤ length held + length xs
  pub past : n < length held → n ≡ 0
  pub short : length (drop n (held ++ xs)) ≤ most_held

-- A header at most in what was dropped, not many found, and one at least where six octets were held.
pub record Completed (dropped found held : ℕ) : Type 0 where
  pub one : dropped ≤ 1
  pub few : found ≤ most_packets + 1
  pub some : 6 ≤ held → 1 ≤ found

-- Room for all that is handed out; a header at most was dropped before.
pub record Taken (dropped : ℕ) (held xs : List ℕ) (l : Lent) : Type 0 where
  pub one : dropped ≤ 1
  pub begun : Begun held xs
  pub most : length (cut_of (held ++ xs)).packets ≤ most_packets
  pub room : Enough l

-- A pointer of a frame with n octets of data, as the frame's reader lets it pass.
abbrev pub Points : ℕ → ℕ → Type 0
Points pointer n = (pointer ≡ raw_data → ⊥) → (pointer ≡ none_starts → ⊥) → pointer < n

-- A frame's data and pointer, and what is lent.
pub record Heard (pointer : ℕ) (xs : List ℕ) (l : Lent) : Type 0 where
  pub few : length xs ≤ most_data
  pub points : Points pointer (length xs)
  pub room : Enough l

-- The same for a channel that is in step or not and holds these octets, and for a channel.
pub record Followable (in_step : Bool) (held : List ℕ) (pointer : ℕ) (xs : List ℕ) (l : Lent) : Type 0 where
  pub sound : Sound in_step held
  pub heard : Heard pointer xs l

pub record Asked (c : Channel) (pointer : ℕ) (xs : List ℕ) (l : Lent) : Type 0 where
  pub sound : channel_unsound c ≡ false
  pub heard : Heard pointer xs l
