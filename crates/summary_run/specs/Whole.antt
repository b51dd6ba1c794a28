-- What the whole loop counts.
use Rattle.std.specs.Prelude.{ℕ, ◌≡◌, List, [], ◌++◌, Bool, true, false, replicate}
use Rattle.stretch.specs.Stretch.{most_kept}
use Rattle.session.specs.Lent.{Lent}
use Rattle.receiver.specs.Run.{roomy}
use Rattle.receiver.specs.declared.Receiver.{Receiver}
use Rattle.feed.specs.Pull.{fresh}
use Rattle.window.specs.Turns.{Loops}
use Rattle.window.specs.Window.{unread}
use Rattle.summary_count.specs.Count.{Ledger, with_counts, judged}
use Rattle.summary_run.specs.Counted.{Turned, with_octets, bad_in}
use Rattle.summary_run.specs.declared.State.{State}
use Rattle.summary_run.specs.declared.Stopped.{Stopped}

-- Where the loop stands: its state, the input, the octets kept, what is lent, what is counted, and all that was read.
pub record Place : Type 0 where
  pub state : State
  pub input : List ℕ
  pub kept : List ℕ
  pub lends : Lent
  pub counts : Ledger
  pub octets : List ℕ

abbrev pub going_at : Place → Bool
going_at p = p.state.going

-- A turn, which writes nothing.
pub record TurnedAt (p : Place) (said : List ℕ) (q : Place) : Type 0 where
  pub turned : Turned p.state p.input p.kept p.lends p.counts q.state q.input q.kept q.lends q.counts
  pub says : said ≡ []
  pub read : q.octets ≡ p.octets ++ turned.pulls.piece

abbrev pub place : State → List ℕ → List ℕ → Lent → Ledger → List ℕ → Place
place s input kept l g octets = record { state = s; input = input; kept = kept; lends = l; counts = g; octets = octets }

abbrev pub start_of : Receiver → State
start_of a = record { feed = fresh; receiver = a; going = true; bad = false; read = unread }

-- No octets are kept at first.
abbrev pub none_kept : List ℕ
none_kept = replicate most_kept 0

-- The contract of the loop: turns one after another from the start on, until one says stop.
pub record Looped (a : Receiver) (g : Ledger) (r : Stopped) (g' : Ledger) : Type 0 where
  pub input : List ℕ
  pub input' : List ℕ
  pub kept' : List ℕ
  pub lends' : Lent
  pub octets : List ℕ
  pub loops : Loops going_at TurnedAt (place (start_of a) input none_kept roomy g []) r.made
      (place r.state input' kept' lends' g' octets)

-- The contract of the counting: the loop, and then whether the recording is bad.
pub record Counts (a : Receiver) (g : Ledger) (r : Stopped) (g' : Ledger) : Type 0 where
  pub behind : Ledger
  pub looped : Looped a g r behind
  pub judges : g' ≡ with_counts behind (judged r.state.bad behind.tally.counts)

-- What all octets add up to: the answers and packets of all that is found in them, and whether they are a bad recording.
abbrev pub whole_of : Receiver → List ℕ → Ledger → Ledger
whole_of a octets g =
    let h : Ledger = with_octets a none_kept octets g in
    with_counts h (judged (bad_in a none_kept octets) h.tally.counts)

-- If the counting stopped and no read failed, what is counted is what all the octets read add up to, in whatever pieces they came.
pub record CountsAll : Type 0 where
  pub counts : {a : Receiver} {g : Ledger} {r : Stopped} {g' : Ledger} (c : Counts a g r g')
      → r.state.going ≡ false → r.state.read.failed ≡ false → g' ≡ whole_of a c.looped.octets g
