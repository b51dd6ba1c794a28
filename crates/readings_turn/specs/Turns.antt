-- What a turn of the program adds to the readings' text, and what it counts.
use Rattle.std.specs.Prelude.{ℕ, ◌≤◌, ◌<◌, ◌≡◌, Bool, true, false, List, [], ◌++◌, length, drop, ltb, Ok, Err}
use Rattle.octets.specs.Pick.{pick}
use Rattle.session.specs.Lent.{Lent}
use Rattle.session.specs.Answers.{StepAnswer}
use Rattle.receiver.specs.Receive.{Receives}
use Rattle.receiver.specs.declared.Receiver.{Receiver}
use Rattle.receiver.specs.declared.Received.{Received}
use Rattle.receiver.specs.declared.Event.{Event}
use Rattle.receiver.specs.declared.Event.TheVariants as event
use Rattle.feed.specs.Pull.{hand_of, Pulls}
use Rattle.feed.specs.declared.Pulled.{Pulled}
use Rattle.feed.specs.declared.Pull.{Pull}
use Rattle.feed.specs.declared.Pull.TheVariants as pull
use Rattle.telling.specs.Counts.{counted}
use Rattle.readings_lines.specs.Output.{pending, failed_in, Adds}
use Rattle.readings_lines.specs.Lines.{Added, adding, Leaves}
use Rattle.readings_frame.specs.Readings.{Layouts, numbered, frame_adds, Writes}
use Rattle.readings_frame.specs.declared.State.{State}
use Rattle.readings_lines.specs.declared.Output.{Output}
use Rattle.readings_turn.specs.declared.Standing.{Standing}

-- ---- what a section adds

-- An accepted frame adds its packets; a refusal is counted by its number.
abbrev pub answer_adds : Layouts → StepAnswer → Lent → ℕ → List ℕ → Added
answer_adds l (Ok a) t packets counts = frame_adds l a t.octets t.lengths t.firsts packets counts
answer_adds l (Err r) t packets counts = adding [] (counted counts r.number)

-- How many packets it hands out.
abbrev pub answer_hands : StepAnswer → ℕ
answer_hands (Ok a) = a.packets
answer_hands (Err r) = 0

-- What a call of the feed tells: only an answer adds or counts anything.
abbrev pub pull_adds : Layouts → Pull → Lent → ℕ → List ℕ → Added
pull_adds l (pull.Answered a) t packets counts = answer_adds l a t packets counts
pull_adds l pull.More t packets counts = adding [] counts
pull_adds l pull.Opened t packets counts = adding [] counts
pull_adds l pull.Bad t packets counts = adding [] counts
pull_adds l pull.End t packets counts = adding [] counts
pull_adds l pull.Cut t packets counts = adding [] counts
pull_adds l pull.Failed t packets counts = adding [] counts

abbrev pub pull_hands : Pull → ℕ
pull_hands (pull.Answered a) = answer_hands a
pull_hands pull.More = 0
pull_hands pull.Opened = 0
pull_hands pull.Bad = 0
pull_hands pull.End = 0
pull_hands pull.Cut = 0
pull_hands pull.Failed = 0

-- The same of what a receiver tells.
abbrev pub event_adds : Layouts → Event → Lent → ℕ → List ℕ → Added
event_adds l (event.Answered a) t packets counts = answer_adds l a t packets counts
event_adds l (event.Missing n) t packets counts = adding [] counts
event_adds l event.Bad t packets counts = adding [] counts
event_adds l event.Over t packets counts = adding [] counts
event_adds l event.Opened t packets counts = adding [] counts
event_adds l event.Nothing t packets counts = adding [] counts

abbrev pub event_hands : Event → ℕ
event_hands (event.Answered a) = answer_hands a
event_hands (event.Missing n) = 0
event_hands event.Bad = 0
event_hands event.Over = 0
event_hands event.Opened = 0
event_hands event.Nothing = 0

-- More may come after what was told: not after the end, a bad recording or a failed read.
abbrev pub may_follow : Pull → Bool
may_follow (pull.Answered a) = true
may_follow pull.More = true
may_follow pull.Opened = true
may_follow pull.Bad = false
may_follow pull.End = false
may_follow pull.Cut = false
may_follow pull.Failed = false

abbrev pub goes_on : Pull → Bool → Bool
goes_on p true = false
goes_on p false = may_follow p

-- The recording is bad.
abbrev pub is_bad : Pull → Bool
is_bad (pull.Answered a) = false
is_bad pull.More = false
is_bad pull.Opened = false
is_bad pull.Bad = true
is_bad pull.End = false
is_bad pull.Cut = true
is_bad pull.Failed = false

-- What was told is heeded: its packets are added and numbered, its refusal is counted.
pub record Heeds (l : Layouts) (p : Pull) (t : Lent) (out counts : List ℕ) (s : State) (out' counts' : List ℕ) (s' : State) : Type 0 where
  pub packets : s'.packets ≡ numbered s.packets (pull_hands p)
  pub leaves : Leaves (pull_adds l p t s.packets counts) out s.output out' counts' s'.output

-- ---- before a read

-- With so many octets at hand the recording goes on without a read.
abbrev pub section : ℕ
section = 1026

-- With fewer at hand the text is written; else all stays.
pub record Clears (hand : ℕ) (out : List ℕ) (s s' : State) : Type 0 where
  pub stays : section ≤ hand → s' ≡ s
  pub writes : hand < section → Writes out s s'

-- The text that is handed to the write then.
abbrev pub cleared : ℕ → List ℕ → State → List ℕ
cleared hand out s = pick (ltb hand section) (pending out s.output) []

-- ---- a run

-- A run over any results that satisfy the receiver's promise, from a receiver on: the octets read so far, the text and the counts that they
-- came to, how many packets were handed out, the receiver, the octets kept, those at hand, and what is lent. A piece may come at any time,
-- and a call may be made at any time.
pub data Run (l : Layouts) (a₀ : Receiver) (kept₀ counts₀ : List ℕ) (packets₀ : ℕ) (t₀ : Lent)
    : List ℕ → List ℕ → List ℕ → ℕ → Receiver → List ℕ → List ℕ → Lent → Type 0 where
  starts : Run l a₀ kept₀ counts₀ packets₀ t₀ [] [] counts₀ packets₀ a₀ kept₀ [] t₀
  reads : {octets text counts : List ℕ} {packets : ℕ} {a : Receiver} {kept w : List ℕ} {t : Lent} (piece : List ℕ)
      → Run l a₀ kept₀ counts₀ packets₀ t₀ octets text counts packets a kept w t
      → Run l a₀ kept₀ counts₀ packets₀ t₀ (octets ++ piece) text counts packets a kept (w ++ piece) t
  takes : {octets text counts : List ℕ} {packets : ℕ} {a : Receiver} {kept w : List ℕ} {t : Lent} (r : Received) (kept' : List ℕ)
      (t' : Lent)
      → Receives a kept w t r kept' t' → Run l a₀ kept₀ counts₀ packets₀ t₀ octets text counts packets a kept w t
      → Run l a₀ kept₀ counts₀ packets₀ t₀ octets (text ++ (event_adds l r.event t' packets counts).text)
      (event_adds l r.event t' packets counts).counts
      (numbered packets (event_hands r.event)) r.receiver kept' (drop r.used w) t'

-- ---- a turn

-- A call of the feed; what it tells is heeded, the text that this adds goes through the output, and before a read none is left unwritten.
pub record Turned (l : Layouts) (b : Standing) (input kept : List ℕ) (t : Lent) (out counts : List ℕ) (r : Standing)
    (input' kept' : List ℕ) (t' : Lent)
    (out' counts' : List ℕ) : Type 0 where
  pub pulled : Pulled
  pub pulls : Pulls b.feed input b.receiver kept t pulled input' kept' t'
  pub feed : r.feed ≡ pulled.feed
  pub receiver : r.receiver ≡ pulled.receiver
  pub read : r.read ≡ pulled.read
  pub bad : r.bad ≡ is_bad pulled.pull
  pub heard : State
  pub heeds : Heeds l pulled.pull t' out counts b.state out' counts' heard
  pub long : length out' ≡ length out
  pub clears : Clears (length (hand_of r.feed input')) out' heard r.state
  pub going : r.going ≡ goes_on pulled.pull (failed_in r.state.output)

-- What it hands to the write: what is written while it is heeded, and before a read what is left.
abbrev pub handed_by : {l : Layouts} {b : Standing} {input kept : List ℕ} {t : Lent} {out counts : List ℕ} {r : Standing}
    {input' kept' : List ℕ} {t' : Lent}
    {out' counts' : List ℕ} → Turned l b input kept t out counts r input' kept' t' out' counts' → List ℕ
handed_by {r = r} {input' = input'} {out' = out'} m =
    m.heeds.leaves.fills.adds.written ++ cleared (length (hand_of r.feed input')) out' m.heard

-- A run that went on: a piece was read, and a text added.
pub record Went (l : Layouts) (a₀ : Receiver) (kept₀ counts₀ : List ℕ) (packets₀ : ℕ) (t₀ : Lent) (octets text counts : List ℕ)
    (packets : ℕ)
    (a : Receiver) (kept w : List ℕ) (t : Lent) (out : List ℕ) (o : Output) (out' : List ℕ) (o' : Output)
    (piece said handed : List ℕ) : Type 0 where
  pub run : Run l a₀ kept₀ counts₀ packets₀ t₀ (octets ++ piece) (text ++ said) counts packets a kept w t
  pub adds : Adds said out o out' o'
  pub hands : handed ≡ adds.written

-- Whatever was read and added before, a turn goes on with that run: by the piece that its read brought, the text of what was told, and what
-- it hands to the write.
abbrev pub TurnsGoOn : Type 0
TurnsGoOn =
    (l : Layouts) (b : Standing) (input kept : List ℕ) (t : Lent) (out counts : List ℕ) (r : Standing) (input' kept' : List ℕ)
    (t' : Lent) (out' counts' : List ℕ)
    → (m : Turned l b input kept t out counts r input' kept' t' out' counts')
    → (a₀ : Receiver) (kept₀ counts₀ : List ℕ) (packets₀ : ℕ) (t₀ : Lent) (octets text : List ℕ)
    → Run l a₀ kept₀ counts₀ packets₀ t₀ octets text counts b.state.packets b.receiver kept (hand_of b.feed input) t
    → Went l a₀ kept₀ counts₀ packets₀ t₀ octets text counts' r.state.packets r.receiver kept' (hand_of r.feed input') t'
    out b.state.output out' r.state.output m.pulls.piece (pull_adds l m.pulled.pull t' b.state.packets counts).text
    (handed_by m)
