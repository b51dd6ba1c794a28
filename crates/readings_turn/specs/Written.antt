-- The whole loop: its turns, the octets that they read and what they hand to the write, and the exit status.
use Rattle.std.specs.Prelude.{ℕ, ◌≡◌, Bool, false, not, ◌||◌, List, [], ◌++◌, ℤ, length, replicate}
use Rattle.octets.specs.Pick.{pick}
use Rattle.stretch.specs.Stretch.{most_kept}
use Rattle.session.specs.Lent.{Lent}
use Rattle.receiver.specs.Run.{roomy}
use Rattle.receiver.specs.declared.Receiver.{Receiver}
use Rattle.window.specs.Window.{unread}
use Rattle.window.specs.Turns.{Loops}
use Rattle.window.specs.Status.{done, against, broken}
use Rattle.feed.specs.Pull.{fresh}
use Rattle.readings_lines.specs.Output.{pending, failed_in}
use Rattle.readings_frame.specs.Readings.{Layouts, Begins, Writes}
use Rattle.readings_frame.specs.declared.State.{State}
use Rattle.readings_turn.specs.Turns.{Turned, handed_by}
use Rattle.readings_turn.specs.declared.Standing.{Standing}
use Rattle.readings_turn.specs.declared.Stopped.{Stopped}

-- Where the loop stands, with all octets that were read.
pub record Place : Type 0 where
  pub standing : Standing
  pub input : List ℕ
  pub kept : List ℕ
  pub lent : Lent
  pub out : List ℕ
  pub counts : List ℕ
  pub octets : List ℕ

abbrev pub place_of : Standing → List ℕ → List ℕ → Lent → List ℕ → List ℕ → List ℕ → Place
place_of s input kept t out counts octets =
    record { standing = s; input = input; kept = kept; lent = t; out = out; counts = counts; octets = octets }

abbrev pub going_at : Place → Bool
going_at p = p.standing.going

-- A turn from one place to another, and what it hands to the write.
pub record TurnedAt (l : Layouts) (p : Place) (said : List ℕ) (q : Place) : Type 0 where
  pub turned :
      Turned l p.standing p.input p.kept p.lent p.out p.counts q.standing q.input q.kept q.lent q.out
      q.counts
  pub reads : q.octets ≡ p.octets ++ turned.pulls.piece
  pub says : said ≡ handed_by turned

-- Nothing is read yet; after a write that failed no turn is made.
abbrev pub begins : Receiver → State → Standing
begins a s =
    record { feed = fresh; receiver = a; state = s; read = unread; bad = false; going = not (failed_in s.output) }

-- No octets are kept at first.
abbrev pub none_kept : List ℕ
none_kept = replicate most_kept 0

abbrev pub start_of : Receiver → State → List ℕ → List ℕ → List ℕ → Place
start_of a s input out counts = place_of (begins a s) input none_kept roomy out counts []

-- The contract of the loop: so many turns, one after another, and the octets that they read.
pub record Looped (l : Layouts) (a : Receiver) (s : State) (input out counts : List ℕ) (standing : Standing) (made : ℕ)
    (input' out' counts' : List ℕ)
    : Type 0 where
  pub kept : List ℕ
  pub lent : Lent
  pub octets : List ℕ
  pub loops : Loops going_at (TurnedAt l) (start_of a s input out counts) made (place_of standing input' kept lent out' counts' octets)

-- With another state.
abbrev pub with_state : Standing → State → Standing
with_state r s = record { feed = r.feed; receiver = r.receiver; state = s; read = r.read; bad = r.bad; going = r.going }

-- The contract of the whole: the header is written, the turns are made, and what is left is written.
pub record Reported (l : Layouts) (a : Receiver) (input out counts : List ℕ) (r : Stopped) (input' out' counts' : List ℕ) : Type 0 where
  pub headed : List ℕ
  pub begun : State
  pub begins : Begins out headed begun
  pub long : length headed ≡ length out
  pub first : State
  pub starts : Writes headed begun first
  pub last : State
  pub looped : Looped l a first input headed counts (with_state r.standing last) r.made input' out' counts'
  pub ends : Writes out' last r.standing.state

-- All that was handed to the write, in its order.
abbrev pub handed_on : {l : Layouts} {a : Receiver} {input out counts : List ℕ} {r : Stopped} {input' out' counts' : List ℕ}
    → Reported l a input out counts r input' out' counts' → List ℕ
handed_on {out' = out'} h =
    pending h.headed h.begun.output ++ (h.looped.loops.made.text ++ pending out' h.last.output)

-- A read or a write failed, or more was to come when no more turns could be made.
abbrev pub not_done : Standing → Bool
not_done s = failed_in s.state.output || (s.read.failed || s.going)

-- The exit status.
abbrev pub status_of : Standing → ℤ
status_of s = pick (not_done s) broken (pick s.bad against done)
