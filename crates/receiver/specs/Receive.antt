-- What a receiver makes of the octets at hand.
use Rattle.std.specs.Prelude.{ℕ, ◌-◌, ◌≤◌, ◌<◌, ◌≡◌, List, [], take, drop}
use Rattle.octets.specs.Parts.{part}
use Rattle.answer.specs.Told.{Told, accept, refuse}
use Rattle.answer.specs.Refusals.{time_length}
use Rattle.stretch.specs.Stretch.{Stretch, found, unread}
use Rattle.source.specs.Scan.{scanned, kept_by}
use Rattle.source.specs.Scan.{fresh as freshSource}
use Rattle.source.specs.declared.Source.{Source}
use Rattle.source.specs.declared.Taken.{Taken}
use Rattle.source.specs.declared.Taken.TheVariants as taken
use Rattle.rules.specs.Channel.{Handed}
use Rattle.session.specs.Open.{opening}
use Rattle.session.specs.Open.{told as toldOpening}
use Rattle.session.specs.Lent.{Lent, laid}
use Rattle.session.specs.Step as session
use Rattle.session.specs.Step.{Outcome, told}
use Rattle.session.specs.Statements.{offered}
use Rattle.session.specs.declared.Session.{Session}
use Rattle.session.specs.declared.Accepted.{Accepted}
use Rattle.session.specs.declared.Stepped.{Stepped}
use Rattle.receiver.specs.declared.Receiver.{Receiver}
use Rattle.receiver.specs.declared.Begun.{Begun}
use Rattle.receiver.specs.declared.Received.{Received}
use Rattle.receiver.specs.declared.Event.{Event}
use Rattle.receiver.specs.declared.Event.TheVariants as event

-- What a call tells, of a step what its answer tells.
pub data Tells : Type 0 where
  missing : ℕ → Tells
  bad : Tells
  over : Tells
  opened : Tells
  nothing : Tells
  answered : Told Accepted → Tells

abbrev pub told_of : Event → Tells
told_of (event.Missing n) = missing n
told_of event.Bad = bad
told_of event.Over = over
told_of event.Opened = opened
told_of event.Nothing = nothing
told_of (event.Answered a) = answered (told a)

-- The next session, what is told, and the packets handed out.
pub record Heard : Type 0 where
  pub session : Session
  pub tells : Tells
  pub packets : List Handed

-- Nothing is offered.
abbrev pub quiet : Session → Tells → Heard
quiet s t = record { session = s; tells = t; packets = [] }

abbrev pub answered_by : Outcome → Heard
answered_by o = record { session = o.session; tells = answered o.answer; packets = o.packets }

-- The octets of a frame that was found in w, or in the octets kept; none where no frame was found, or not all of its octets are there.
abbrev pub frame_of : List ℕ → List ℕ → Taken → List ℕ
frame_of kept w (taken.Missing n) = []
frame_of kept w taken.Bad = []
frame_of kept w taken.Over = []
frame_of kept w (taken.Opened t) = []
frame_of kept w taken.Nothing = []
frame_of kept w (taken.Here from to) = part w from (to - from)
frame_of kept w (taken.Kept n) = part kept 0 n
frame_of kept w (taken.Refused n) = []

-- What a session is offered of it: a stretch that was refused, or else a frame.
abbrev pub stretch_of : List ℕ → List ℕ → Taken → Stretch
stretch_of kept w (taken.Missing n) = found []
stretch_of kept w taken.Bad = found []
stretch_of kept w taken.Over = found []
stretch_of kept w (taken.Opened t) = found []
stretch_of kept w taken.Nothing = found []
stretch_of kept w (taken.Here from to) = found (part w from (to - from))
stretch_of kept w (taken.Kept n) = found (part kept 0 n)
stretch_of kept w (taken.Refused n) = unread n

-- The contract of an offer: what comes of x, l being what was lent, and l' the same afterwards.
abbrev pub Offers : Session → Stretch → Lent → Stepped → Lent → Type 0
Offers s x l r l' = session.Gives (offered s x l) r l l'

-- What a session makes of what was found in w, or in the octets kept, with so much lent.
abbrev pub heard : Session → List ℕ → List ℕ → Lent → Taken → Heard
heard s kept w l (taken.Missing n) = quiet s (missing n)
heard s kept w l taken.Bad = quiet s bad
heard s kept w l taken.Over = quiet s over
heard s kept w l (taken.Opened t) = quiet (opening t 0).session opened
heard s kept w l taken.Nothing = quiet s nothing
heard s kept w l (taken.Here from to) = answered_by (offered s (found (take (to - from) (drop from w))) l)
heard s kept w l (taken.Kept n) = answered_by (offered s (found (take n kept)) l)
heard s kept w l (taken.Refused n) = answered_by (offered s (unread n) l)

-- A receiver of a stream of which nothing is read yet: t is given.
abbrev pub fresh_stream : Source → ℕ → Receiver
fresh_stream s t = record { source = s; session = (opening t 0).session }

-- A receiver of a recording of which nothing is read yet; before t is told no frame is found.
abbrev pub fresh : Receiver
fresh = fresh_stream freshSource 0

-- The contract of `kiss` and of `bits`: the receiver, and what opening its session answers.
pub record Begins (s : Source) (t : ℕ) (r : Begun) : Type 0 where
  pub receiver : r.receiver ≡ fresh_stream s t
  pub answers : toldOpening r.answer ≡ (opening t 0).answer

-- t above 8 is told as refusal 2, and no other t is refused.
abbrev pub TimeRefused : Type 0
TimeRefused =
    (s : Source) (t : ℕ) (r : Begun) → Begins s t r
    → (8 < t → toldOpening r.answer ≡ refuse tt time_length) × (t ≤ 8 → toldOpening r.answer ≡ accept tt)

-- What comes of a call: the next receiver, how many octets are used, what is told, the octets kept and the packets handed out.
pub record Receipt : Type 0 where
  pub receiver : Receiver
  pub used : ℕ
  pub tells : Tells
  pub kept : List ℕ
  pub packets : List Handed

abbrev pub receipt : Source → ℕ → List ℕ → Heard → Receipt
receipt s used kept h =
    record { receiver = record { source = s; session = h.session }; used = used; tells = h.tells; kept = kept; packets = h.packets }

-- By what the scan of w finds.
unfoldable pub received : Receiver → List ℕ → List ℕ → Lent → Receipt
received a kept w l =
    receipt (scanned a.source kept w).source (scanned a.source kept w).used (kept_by a.source kept w)
    (heard a.session (kept_by a.source kept w) w l (scanned a.source kept w).taken)

-- The contract of a call: kept and l are the octets kept and what was lent before, kept' and l' the same afterwards.
pub record Gives (o : Receipt) (r : Received) (kept' : List ℕ) (l l' : Lent) : Type 0 where
  pub receiver : r.receiver ≡ o.receiver
  pub used : r.used ≡ o.used
  pub tells : told_of r.event ≡ o.tells
  pub keeps : kept' ≡ o.kept
  pub leaves : l' ≡ laid o.packets l

abbrev pub Receives : Receiver → List ℕ → List ℕ → Lent → Received → List ℕ → Lent → Type 0
Receives a kept w l r kept' l' = Gives (received a kept w l) r kept' l l'
