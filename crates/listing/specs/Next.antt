-- A call: the sections of a window one after another, while the room of a frame's lines is left.
use Rattle.std.specs.Prelude.{ℕ, zero, suc, ◌+◌, ◌-◌, ◌≤◌, ◌<◌, ◌≡◌, List, [], ◌++◌, Bool, length, take, drop, ltb}
use Rattle.octets.specs.Pick.{pick}
use Rattle.octets.specs.Parts.{written}
use Rattle.stretch.specs.Stretch.{Stretch, found, unread}
use Rattle.source.specs.Scan as source
use Rattle.source.specs.declared.Source.{Source}
use Rattle.source.specs.declared.Taken.{Taken}
use Rattle.source.specs.declared.Taken.TheVariants as taken
use Rattle.session.specs.Open.{opening}
use Rattle.session.specs.declared.Session.{Session}
use Rattle.receiver.specs.declared.Receiver.{Receiver}
use Rattle.listing_lines.specs.Text.{header, bad_recording}
use Rattle.listing.specs.Listing.{made, outcome_text}
use Rattle.listing.specs.Promised.{room, to_come}
use Rattle.listing.specs.declared.Listed.{Listed}
use Rattle.listing.specs.declared.Stop.{Stop}
use Rattle.listing.specs.declared.Stop.TheVariants.{Missing, Full, Over}

-- Where the receiver stands after a call and what it keeps, how many octets were used, the text left, and why it stopped.
pub record Next : Type 0 where
  pub receiver : Receiver
  pub kept : List ℕ
  pub used : ℕ
  pub text : List ℕ
  pub stop : Stop

abbrev pub receiver : Source → Session → Receiver
receiver a s = record { source = a; session = s }

abbrev pub here : Receiver → List ℕ → Stop → Next
here a kept why = record { receiver = a; kept = kept; used = 0; text = []; stop = why }

-- So many octets with this text, then the rest.
abbrev pub behind : ℕ → List ℕ → Next → Next
behind used text n =
    record { receiver = n.receiver; kept = n.kept; used = used + n.used; text = text ++ n.text; stop = n.stop }

-- The lines of what the session is offered, and then what `rest` makes of the octets behind it.
abbrev pub offering : (Receiver → List ℕ → List ℕ → ℕ → Next) → Session → List ℕ → List ℕ → ℕ → Source → ℕ → Stretch → Next
offering rest s kept w left a used x =
    behind used (outcome_text (made s x))
    (rest (receiver a (made s x).session) kept (drop used w) (left - length (outcome_text (made s x))))

-- By what stands at the start of w, which has room, with the source behind it and what that keeps: stops there, or its text and the rest.
abbrev pub by_section : (Receiver → List ℕ → List ℕ → ℕ → Next) → Session → List ℕ → List ℕ → ℕ → Source → ℕ → Taken → Next
by_section rest s kept w left a used (taken.Missing n) = here (receiver a s) kept (Missing n)
by_section rest s kept w left a used taken.Over = here (receiver a s) kept Over
by_section rest s kept w left a used taken.Bad = behind 0 bad_recording (here (receiver a s) kept Over)
by_section rest s kept w left a used (taken.Opened t) =
    behind used header (rest (receiver a (opening t 0).session) kept (drop used w) (left - length header))
by_section rest s kept w left a used taken.Nothing = behind used [] (rest (receiver a s) kept (drop used w) (left - 0))
by_section rest s kept w left a used (taken.Here from to) = offering rest s kept w left a used (found (take (to - from) (drop from w)))
by_section rest s kept w left a used (taken.Kept n) = offering rest s kept w left a used (found (take n kept))
by_section rest s kept w left a used (taken.Refused n) = offering rest s kept w left a used (unread n)

-- The first k sections of w at most, `left` octets being left for text.
unfoldable pub sections : ℕ → Receiver → List ℕ → List ℕ → ℕ → Next
sections zero a kept w left = here a kept Full
sections (suc k) a kept w left =
    pick (ltb left room) (here a kept Full)
    (by_section (sections k) a.session (source.kept_by a.source kept w) w left (source.scanned a.source kept w).source
    (source.scanned a.source kept w).used (source.scanned a.source kept w).taken)

-- All of them: each takes an octet at least.
abbrev pub next_of : Receiver → List ℕ → List ℕ → ℕ → Next
next_of a kept w left = sections (suc (length w)) a kept w left

abbrev pub stopped : Source → Session → ℕ → ℕ → Stop → Listed
stopped a s used size why = record { receiver = receiver a s; used = used; size = size; stop = why }

abbrev pub listed_of : Next → Listed
listed_of n = record { receiver = n.receiver; used = n.used; size = length n.text; stop = n.stop }

-- The contract of a call: kept and out are the octets kept and the lent output before, kept' and out' the same afterwards.
pub record Nexts (a : Receiver) (kept w out : List ℕ) (r : Listed) (kept' out' : List ℕ) : Type 0 where
  pub answers : r ≡ listed_of (next_of a kept w (length out))
  pub keeps : kept' ≡ (next_of a kept w (length out)).kept
  pub leaves : out' ≡ written (next_of a kept w (length out)).text out

-- Why a call stopped: octets are missing; less than the room of a frame's lines is left; nothing comes any more.
abbrev pub Stops : Receiver → List ℕ → List ℕ → ℕ → Stop → Type 0
Stops a kept w left (Missing n) = source.Waits a.source kept w n
Stops a kept w left Full = left < room
Stops a kept w left Over = source.Over a.source kept

-- The text that a call leaves is the next part of what is to come, whatever octets p come behind the window.
pub record Part (a : Receiver) (kept w out : List ℕ) (r : Listed) (kept' out' : List ℕ) : Type 0 where
  pub text : (p : List ℕ) (ended : Bool) → to_come a kept (w ++ p) ended ≡ take r.size out' ++ to_come r.receiver kept'
      (drop r.used w ++ p) ended
  pub inside : r.used ≤ length w
  pub within : r.size ≤ length out
  pub stops : Stops r.receiver kept' (drop r.used w) (length out - r.size) r.stop

pub record NextsAreParts : Type 0 where
  pub part : {a : Receiver} {kept w out : List ℕ} {r : Listed} {kept' out' : List ℕ} → Nexts a kept w out r kept' out'
      → Part a kept w out r kept' out'
