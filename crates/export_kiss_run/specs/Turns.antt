-- What a turn of the program keeps, what the whole loop makes, and the exit status of a run.
use Rattle.std.specs.Prelude.{◌≡◌, ℕ, ◌+◌, ◌-◌, ◌%◌, ◌^◌, ◌≤◌, Bool, true, false, not, ◌&&◌, ◌||◌, List, [], ◌∷◌, ◌++◌, length, take, drop}
use Rattle.std.specs.Prelude.{ℤ, ◌==◌, ◌≢◌}
use Rattle.std.specs.Prelude.{Ok, Err}
use Rattle.std.specs.Result.{result_unwrap_or}
use Rattle.octets.specs.Pick.{pick}
use Rattle.answer.specs.Told.{number_of}
use Rattle.kiss_writer.specs.Answers.{Exported}
use Rattle.source.specs.Found.{cut_at}
use Rattle.source.specs.declared.Source.TheVariants as source
use Rattle.frame.specs.Frame.{read_frame}
use Rattle.recording.specs.Reader.{scanned}
use Rattle.recording.specs.declared.Taken.{Taken}
use Rattle.recording.specs.declared.Taken.TheVariants as taken
use Rattle.kiss.specs.Stream.{mark}
use Rattle.recording.specs.declared.Reader.TheVariants as reader
use Rattle.recording.specs.Pieces.{settings_in}
use Rattle.window.specs.Window.{hand, Refills, unread, unwritten}
use Rattle.window.specs.Turns.{Loops}
use Rattle.window.specs.Status.{done, against, broken}
use Rattle.export_kiss_run.specs.Written.{handed_on, to_write, exported}
use Rattle.export_kiss_run.specs.declared.Led.{Led}
use Rattle.export_kiss_run.specs.declared.State.{State}
use Rattle.export_kiss_run.specs.declared.Stopped.{Stopped}

-- Room for the stream of any one frame that is accepted.
abbrev pub room : ℕ
room = 600

-- A frame whose length has two octets, and that room.
pub record Fits (f out : List ℕ) : Type 0 where
  pub short : length f ≤ 65535
  pub room : room ≤ length out

-- Up to where the octets of a frame that was handed on stand, none of one that is left out; and its refusal, 0 of one that is accepted.
abbrev pub end_of : Exported → ℕ
end_of r = result_unwrap_or r 0

abbrev pub refused_by : Exported → ℕ
refused_by (Ok n) = 0
refused_by (Err e) = number_of e

-- A frame handed on: its block stands behind the output's first octet, and with that one it has a 0xC0 before it; and its refusal.
pub record HandsOn (t : ℕ) (f : List ℕ) (r : Exported) (out : List ℕ) : Type 0 where
  pub says : (both : Bool) → hand out (pick both 0 1) (end_of r) ≡ handed_on both t f
  pub refuses : refused_by r ≡ (read_frame t f).refusal

-- What a section leads to: t, how many frames have passed, the octets that are to be written, a frame's refusal, and whether the run goes
-- on.
pub record Leads : Type 0 where
  pub t : ℕ
  pub frames : ℕ
  pub said : List ℕ
  pub refusal : ℕ
  pub going : Bool

abbrev pub quiet : ℕ → ℕ → Bool → Leads
quiet t n going = record { t = t; frames = n; said = []; refusal = 0; going = going }

-- A frame of these octets, which is the next of n.
abbrev pub framed : Bool → ℕ → ℕ → List ℕ → Leads
framed both t n f = record { t = t; frames = (n + 1) % 2 ^ 64; said = handed_on both t f; refusal = (read_frame t f).refusal; going = true }

-- By what the recording's reader found in w.
abbrev pub leads : Bool → ℕ → ℕ → Taken → List ℕ → Leads
leads both t n (taken.Missing m) w = quiet t n true
leads both t n taken.Bad w = quiet t n false
leads both t n taken.Over w = quiet t n false
leads both t n (taken.Opened x) w = record { t = x; frames = n; said = mark ∷ []; refusal = 0; going = true }
leads both t n taken.Nothing w = quiet t n true
leads both t n (taken.Here from to) w = framed both t n (take (to - from) (drop from w))

-- The same as the code has it, with the octets of the output that are to be written.
abbrev pub led_to : Led → List ℕ → Leads
led_to r out = record { t = r.t; frames = r.frames; said = hand out r.from (end_of r.handed); refusal = refused_by r.handed; going = r.going }

-- What the reader found is there.
abbrev pub Sound : Taken → List ℕ → Type 0
Sound (taken.Missing m) w = Unit {0}
Sound taken.Bad w = Unit {0}
Sound taken.Over w = Unit {0}
Sound (taken.Opened x) w = x ≤ 255
Sound taken.Nothing w = Unit {0}
Sound (taken.Here from to) w = (from ≤ to) × (to ≤ length w) × (to - from ≤ 65535)

pub record Sections (x : Taken) (w out : List ℕ) : Type 0 where
  pub sound : Sound x w
  pub room : room ≤ length out

-- What may be handed to a write: the octets that a section leads to.
pub record Said (octets : List ℕ) : Type 0 where
  pub both : Bool
  pub t : ℕ
  pub frames : ℕ
  pub found : Taken
  pub w : List ℕ
  pub same : octets ≡ (leads both t frames found w).said

-- ---- a turn

-- The octets at hand, and what the section at their start leads to.
abbrev pub hand_of : State → List ℕ → List ℕ
hand_of s input = hand input s.at s.end

abbrev pub led_by : Bool → State → List ℕ → Leads
led_by both s input = leads both s.t s.frames (scanned s.reader (hand_of s input)).taken (hand_of s input)

-- Whether a read or a write failed in the last turn.
abbrev pub failed_in : State → Bool
failed_in s = s.read.failed || s.written.failed

-- A read where octets are missing: all else stays, and nothing is written; if none came or the read failed the run ends.
pub record Reads (s : State) (input : List ℕ) (r : State) (input' : List ℕ) : Type 0 where
  pub refills : Refills input s.at s.end input' r.read
  pub at : r.at ≡ 0
  pub end : r.end ≡ r.read.have
  pub reader : r.reader ≡ s.reader
  pub t : r.t ≡ s.t
  pub frames : r.frames ≡ s.frames
  pub left : r.left ≡ s.left
  pub going : r.going ≡ (not r.read.failed && not (r.read.came == 0))
  pub over : r.over ≡ false
  pub none : r.written ≡ unwritten

-- Nothing more is to be written: whatever comes, of a recording that was found bad; else as the input has ended.
abbrev pub Ends : Bool → Bool → State → List ℕ → Type 0
Ends both true r input = (p : List ℕ) → to_write both r.t r.reader (hand_of r input ++ p) ≡ []
Ends both false r input = (to_write both r.t r.reader (hand_of r input) ≡ []) × (r.read.came ≡ 0)

-- The contract of a turn, which hands `(led_by both s input).said` to a write.
pub record Turned (both : Bool) (s : State) (input : List ℕ) (r : State) (input' : List ℕ) : Type 0 where
  -- The octets at hand end with the piece that was read, of as many octets as the read brought.
  pub before : List ℕ
  pub piece : List ℕ
  pub many : length piece ≡ r.read.came
  pub window : hand_of r input' ≡ before ++ piece
  -- So many octets were handed on.
  pub wrote : r.written.size ≡ length (led_by both s input).said
  -- Whatever comes behind the piece that was read: what is to be written from here on is what is written now, then what is to be written
  -- from there on.
  pub goes : (p : List ℕ) → to_write both s.t s.reader (hand_of s input ++ (piece ++ p))
      ≡ (led_by both s input).said ++ to_write both r.t r.reader (hand_of r input' ++ p)
  -- How it ends if nothing failed; whatever fails ends it, and nothing is read behind a write that failed.
  pub ends : r.going ≡ false → failed_in r ≡ false → Ends both r.over r input'
  pub fails : failed_in r ≡ true → r.going ≡ false
  pub once : r.written.failed ≡ true → r.read ≡ unread
  -- t is the recording's; the frames that have passed are counted, and it is known whether one was left out and whether the recording was
  -- found bad.
  pub time : r.t ≡ (led_by both s input).t
  pub counts : r.frames ≡ (led_by both s input).frames
  pub leaves : r.left ≡ (s.left || not ((led_by both s input).refusal == 0))
  pub found : r.over ≡ not (led_by both s input).going
  -- It ends where the octets at hand stay as they were: none was used and none came.
  pub stays : hand_of r input' ≡ hand_of s input → r.going ≡ false

-- ---- the loop

-- Where the loop stands: its state, the input, and all that was read.
pub record Place : Type 0 where
  pub state : State
  pub input : List ℕ
  pub octets : List ℕ

abbrev pub going_at : Place → Bool
going_at p = p.state.going

pub record TurnedAt (both : Bool) (p : Place) (said : List ℕ) (q : Place) : Type 0 where
  pub turned : Turned both p.state p.input q.state q.input
  pub says : said ≡ (led_by both p.state p.input).said
  pub read : q.octets ≡ p.octets ++ turned.piece

abbrev pub place : State → List ℕ → List ℕ → Place
place s input octets = record { state = s; input = input; octets = octets }

abbrev pub start : State
start = record {
  reader = reader.Settings;
  t = 0;
  at = 0;
  end = 0;
  passed = 0;
  frames = 0;
  left = false;
  going = true;
  over = false;
  read = unread;
  written = unwritten;
}

-- The contract of the loop: turns one after another from the start on, until one says stop.
pub record Looped (both : Bool) (input : List ℕ) (r : Stopped) (input' : List ℕ) : Type 0 where
  pub octets : List ℕ
  pub loops : Loops going_at (TurnedAt both) (place start input []) r.made (place r.state input' octets)

-- ---- the whole run

-- 2 if it did not come to its end, or a read or a write failed; 1 if the recording is bad or a frame was left out; else 0.
abbrev pub status_of : Stopped → ℤ
status_of r =
    pick (r.state.going || failed_in r.state) broken
    (pick ((r.state.over || cut_at (source.Recording r.state.reader)) || r.state.left) against done)

-- The contract of a run.
pub record Ran (both : Bool) (status : ℤ) : Type 0 where
  pub input : List ℕ
  pub stopped : Stopped
  pub input' : List ℕ
  pub looped : Looped both input stopped input'
  pub says : status ≡ status_of stopped

-- All that is made of the octets read: at the input's end, or, of a recording that was found bad, whatever comes behind them.
abbrev pub Whole : Bool → (List ℕ → List ℕ) → List ℕ → List ℕ → Type 0
Whole true f octets written = (p : List ℕ) → written ≡ f (octets ++ p)
Whole false f octets written = written ≡ f octets

-- If a run ends with another status than 2, then all that was written is what is to be written of all the octets read.
pub record LoopsExport : Type 0 where
  pub exports : {both : Bool} {status : ℤ} (r : Ran both status) → (status ≢ broken)
      → Whole r.stopped.state.over (λ octets. exported both (settings_in octets).t (settings_in octets).frames) r.looped.octets
      r.looped.loops.made.text
