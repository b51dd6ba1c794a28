-- What comes of a whole script: the octets handed on, and the exit status.
use Rattle.std.specs.Prelude.{◌≡◌, Bool, true, false, length, take, ℤ}
use Rattle.window.specs.Window.{unwritten}
use Rattle.window.specs.Status.{done, against, broken}
use Rattle.transmit_recording.specs.Recording.{recording_of}
use Rattle.transmit_run.specs.Turn.{Run, is_fault}
use Rattle.transmit_run.specs.declared.Ended.{Ended}

-- The exit status, by whether a line had a fault and whether what was handed on failed.
abbrev pub status_of : Bool → Bool → ℤ
status_of true failed = against
status_of false true = broken
status_of false false = done

-- A line with a fault: nothing is handed on. No fault: the octets handed on are as many as the recording of the frames that were made has.
pub record Ends (r : Run) (e : Ended) : Type 0 where
  pub faulty : e.faulty ≡ is_fault r.place.fault
  pub none : e.faulty ≡ true → e.written ≡ unwritten
  pub whole : e.faulty ≡ false
      → e.written.size ≡ length (recording_of r.place.state.common.t r.lent.made
      (take r.place.state.made.count r.lent.frames))
