-- What is told at the end, and the exit status.
use Rattle.std.specs.Prelude.{ℕ, ◌≡◌, Bool, true, false, not, ◌&&◌, ◌||◌, List, ℤ, take}
use Rattle.octets.specs.Pick.{pick}
use Rattle.window.specs.Window.{unwritten}
use Rattle.window.specs.declared.Written.{Written}
use Rattle.window.specs.Status.{done, against, broken}
use Rattle.table.specs.declared.Check.{Check}
use Rattle.table.specs.declared.Verdict.{Verdict}
use Rattle.table.specs.declared.Verdict.TheVariants.{Passes, Faulty}
use Rattle.audit_form.specs.declared.Formed.{Formed}
use Rattle.audit_line.specs.Text.{verdict_line}
use Rattle.audit_turns.specs.declared.State.{State}

-- By the first reading: it did not reach the file's end, for a read failed or for ever more came; or the table is badly formed; or its rows
-- are to be read.
unfoldable pub first_status : Formed → Check → ℤ
first_status f c = pick (f.reading.going || f.reading.read.failed) broken (pick c.formed done against)

-- By a verdict, and whether its line could not be written: 0 only for a table that passes, and that this was written.
abbrev pub by_verdict : Verdict → ℤ
by_verdict Passes = done
by_verdict (Faulty reason row) = against

abbrev pub status_by : Verdict → Bool → ℤ
status_by v true = broken
status_by v false = by_verdict v

-- A verdict stands: the input has ended, and no read of the table failed.
unfoldable pub standing : State → Bool
standing s = (not s.going && s.ended) && not s.audit.read.failed

-- What is handed to the write is exactly the line of the verdict that stands; where none stands nothing is.
pub record Tells (s : State) (w : Written) (line : List ℕ) : Type 0 where
  pub none : standing s ≡ false → w ≡ unwritten
  pub text : standing s ≡ true → take w.size line ≡ verdict_line s.audit.verdict

-- The exit status by where the second reading stopped, and whether its verdict could not be written.
pub data Ends (s : State) (unsaid : Bool) (n : ℤ) : Type 0 where
  -- It did not stop: all turns were made.
  endless : s.going ≡ true → n ≡ broken → Ends s unsaid n
  -- A read of the input failed, or the recording is bad.
  unread : s.going ≡ false → s.ended ≡ false → s.read.failed ≡ true → n ≡ broken → Ends s unsaid n
  bad : s.going ≡ false → s.ended ≡ false → s.read.failed ≡ false → n ≡ against → Ends s unsaid n
  -- The input has ended: a read of the table failed, or the verdict stands.
  lost : s.going ≡ false → s.ended ≡ true → s.audit.read.failed ≡ true → n ≡ broken → Ends s unsaid n
  stands : s.going ≡ false → s.ended ≡ true → s.audit.read.failed ≡ false → n ≡ status_by s.audit.verdict unsaid → Ends s unsaid n
