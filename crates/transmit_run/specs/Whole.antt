-- The whole run: the script is read, and a recording made of it.
use Rattle.std.specs.Prelude.{◌≡◌, ℕ, ◌<◌, ◌≤◌, true, false, List, length, ℤ}
use Rattle.window.specs.Window.{hand}
use Rattle.window.specs.Status.{done, against, broken}
use Rattle.transmit_steps.specs.Step.{Lent}
use Rattle.transmit_run.specs.Turn.{fresh_place, running}
use Rattle.transmit_run.specs.Filled.{Looped}
use Rattle.transmit_run.specs.Ended.{Ends, status_of}
use Rattle.transmit_run.specs.declared.Ended.{Ended}
use Rattle.transmit_run.specs.declared.Filled.{Filled}

-- Of a script's octets: its lines one after another, what is handed on at their end, and the status.
pub record Makes (script : List ℕ) (status : ℤ) : Type 0 where
  pub lends : Lent
  pub ended : Ended
  pub ends : Ends (running (length script) fresh_place script 0 0 lends) ended
  pub says : status ≡ status_of ended.faulty ended.written.failed

-- Room for a script, which must not fill it.
abbrev pub script_room : ℕ
script_room = 65536

-- The contract of a run: the script is read, a piece after another. 2 if a read failed; 1 if the script is longer than there is room for;
-- else what is made of all that was read.
pub record Reads (status : ℤ) : Type 0 where
  pub script : List ℕ
  pub filled : Filled
  pub script' : List ℕ
  pub reads : Looped script filled script'
  pub failed : filled.state.read.failed ≡ true → status ≡ broken
  pub long : filled.state.read.failed ≡ false → script_room ≤ filled.state.have → status ≡ against
  pub whole : filled.state.read.failed ≡ false → filled.state.have < script_room
      → Makes (hand script' 0 filled.state.have) status

-- If a run ends with 0, no read failed, there was room for the script, no line of it had a fault, and the recording was handed on.
pub record AllMade {status : ℤ} (r : Reads status) : Type 0 where
  pub read : r.filled.state.read.failed ≡ false
  pub room : r.filled.state.have < script_room
  pub made : Makes (hand r.script' 0 r.filled.state.have) done
  pub sound : made.ended.faulty ≡ false
  pub written : made.ended.written.failed ≡ false

pub record DoneIsMade : Type 0 where
  pub all : {status : ℤ} (r : Reads status) → status ≡ done → AllMade r
