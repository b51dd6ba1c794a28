-- What a turn of the program keeps, what the whole loop makes, and the exit status of a run.
use Rattle.std.specs.Prelude.{◌≡◌, ℕ, ◌+◌, ◌<◌, Bool, true, false, not, ◌&&◌, ◌||◌, List, [], ◌++◌, length, take, drop, ℤ, ◌==◌, ◌≢◌}
use Rattle.octets.specs.Pick.{pick}
use Rattle.source.specs.Scan.{Waits, Over}
use Rattle.source.specs.Found.{cut_at}
use Rattle.source.specs.declared.Source.{Source}
use Rattle.receiver.specs.declared.Receiver.{Receiver}
use Rattle.receiver.specs.Receive.{fresh}
use Rattle.listing_lines.specs.Text.{header}
use Rattle.listing.specs.Listing.{listing}
use Rattle.listing.specs.Promised.{to_come, at_end}
use Rattle.listing.specs.Next.{Nexts}
use Rattle.listing.specs.Whole.{Run}
use Rattle.listing.specs.declared.Listed.{Listed}
use Rattle.window.specs.Window.{hand, unread}
use Rattle.window.specs.Turns.{Loops}
use Rattle.window.specs.Status.{done, against, broken}
use Rattle.window.specs.declared.Written.{Written}
use Rattle.decode_run.specs.declared.State.{State}
use Rattle.decode_run.specs.declared.Stopped.{Stopped}

-- The octets at hand.
abbrev pub hand_of : State → List ℕ → List ℕ
hand_of s input = hand input s.at s.end

-- What may be handed to a write: the first octets of an output, so many, that are the text that a call of the listing left there, the
-- header, or the line of the end.
pub data Left (out : List ℕ) (size : ℕ) : Type 0 where
  listed : {a : Receiver} {kept w before : List ℕ} {r : Listed} {kept' : List ℕ} → Nexts a kept w before r kept' out → r.size ≡ size
      → Left out size
  begins : take size out ≡ header → Left out size
  ends : (s : Source) → take size out ≡ at_end s → Left out size

-- ---- a turn

-- Whether a read or a write failed in the last turn.
abbrev pub failed_in : State → Bool
failed_in s = s.read.failed || s.written.failed

pub record Missed (a : Source) (kept w : List ℕ) : Type 0 where
  pub n : ℕ
  pub waits : Waits a kept w n

-- How a run ends in which nothing failed: nothing comes any more, or octets are missing and a read brought none.
abbrev pub Ends : Bool → Receiver → List ℕ → List ℕ → Type 0
Ends true a kept w = Over a.source kept
Ends false a kept w = Missed a.source kept w

-- A turn that hands the octets `said` to a write.
pub record Turned (s : State) (input kept said : List ℕ) (r : State) (input' kept' : List ℕ) : Type 0 where
  -- A piece was read behind the octets that were not used, of as many octets as the read brought.
  pub piece : List ℕ
  pub many : length piece ≡ r.read.came
  pub window : hand_of r input' ≡ drop r.used (hand_of s input) ++ piece
  -- Whatever was read and written before, the turn goes on with that run.
  pub goes : (a₀ : Receiver) (kept₀ octets text : List ℕ) → Run a₀ kept₀ octets text s.receiver kept (hand_of s input)
      → Run a₀ kept₀ (octets ++ piece) (text ++ said) r.receiver kept' (hand_of r input')
  -- How it ends if nothing failed: where octets are missing the system was asked for more. Whatever fails ends it, and nothing is read
  -- behind a write that failed.
  pub ends : r.going ≡ false → failed_in r ≡ false → Ends r.over r.receiver kept' (hand_of r input') × (r.read.came ≡ 0)
  pub asked : r.going ≡ false → failed_in r ≡ false → r.over ≡ false → r.read.tried ≡ true
  pub fails : failed_in r ≡ true → r.going ≡ false
  pub once : r.written.failed ≡ true → r.read ≡ unread
  -- Each but the last reads or writes an octet at least.
  pub moves : r.going ≡ true → 0 < r.read.came + length said

-- ---- the loop

-- Where the loop stands: its state, the input, the octets kept, and all that was read.
pub record Place : Type 0 where
  pub state : State
  pub input : List ℕ
  pub kept : List ℕ
  pub octets : List ℕ

abbrev pub going_at : Place → Bool
going_at p = p.state.going

pub record TurnedAt (p : Place) (said : List ℕ) (q : Place) : Type 0 where
  pub turned : Turned p.state p.input p.kept said q.state q.input q.kept
  pub read : q.octets ≡ p.octets ++ turned.piece

abbrev pub place : State → List ℕ → List ℕ → List ℕ → Place
place s input kept octets = record { state = s; input = input; kept = kept; octets = octets }

-- Behind a first write, which may have failed.
abbrev pub start_of : Receiver → Written → State
start_of a o = record { receiver = a; at = 0; end = 0; used = 0; going = not o.failed; over = false; read = unread; written = o }

-- What is written behind the last turn: nothing if a read or a write failed or if that the recording is bad is told already, else the line
-- of the end.
abbrev pub last_of : State → List ℕ
last_of s = pick (failed_in s) [] (pick s.over [] (at_end s.receiver.source))

-- When it is said that no frame was accepted: an input that is not cut has ended, frames used arrival numbers, and its session heard none.
abbrev pub none_accepted : State → Bool
none_accepted s =
    (not (cut_at s.receiver.source) && not s.receiver.session.heard) && not (s.receiver.session.arrival == 0)

-- The contract of the loop: turns one after another from the start on, until one says stop, and what is written then.
pub record Looped (a : Receiver) (first : Written) (input kept : List ℕ) (r : Stopped) (input' kept' out' : List ℕ) : Type 0 where
  pub octets : List ℕ
  pub loops : Loops going_at TurnedAt (place (start_of a first) input kept []) r.made (place r.state input' kept' octets)
  pub last : r.state.going ≡ false → take r.last.size out' ≡ last_of r.state

-- ---- the whole run

-- 2 if it did not come to its end, or a read or a write failed; 1 if the recording is bad; else 0.
abbrev pub status_of : Stopped → ℤ
status_of r =
    pick ((r.state.going || failed_in r.state) || r.last.failed) broken
    (pick (r.state.over || cut_at r.state.receiver.source) against done)

-- The contract of a run that begins with this text: the first write, the loop, and the status.
pub record Ran (text : List ℕ) (a : Receiver) (status : ℤ) : Type 0 where
  pub first : Written
  pub top : List ℕ
  pub begins : take first.size top ≡ text
  pub input : List ℕ
  pub kept : List ℕ
  pub stopped : Stopped
  pub input' : List ℕ
  pub kept' : List ℕ
  pub out' : List ℕ
  pub looped : Looped a first input kept stopped input' kept' out'
  pub says : status ≡ status_of stopped

-- All that was handed to writes: at the start, in the turns, and at the end.
abbrev pub all_written : {text : List ℕ} {a : Receiver} {status : ℤ} → Ran text a status → List ℕ
all_written r = take r.first.size r.top ++ (r.looped.loops.made.text ++ take r.stopped.last.size r.out')

-- All that a listing makes of the octets read: at the input's end, or, of a recording that was found bad, whatever comes behind them.
abbrev pub Whole : Bool → (List ℕ → Bool → List ℕ) → List ℕ → List ℕ → Type 0
Whole true f octets written = (p : List ℕ) (ended : Bool) → written ≡ f (octets ++ p) ended
Whole false f octets written = written ≡ f octets true

-- If a run ends with another status than 2, then all that was written is the listing of all the octets read: of a stream the header and
-- what is to come from its receiver, of a recording what the papers define.
pub record LoopsList : Type 0 where
  pub lists : {text : List ℕ} {a : Receiver} {status : ℤ} (r : Ran text a status) → (status ≢ broken)
      → Whole r.stopped.state.over (λ octets ended. text ++ to_come a r.kept octets ended) r.looped.octets (all_written r)
  pub recording : {status : ℤ} (r : Ran [] fresh status) → (status ≢ broken)
      → Whole r.stopped.state.over listing r.looped.octets (all_written r)
