-- From the first turn to the last: what is told is the verdict of Table, on the octets of the table and the packets of the input as they
-- were
-- read.
use Rattle.std.specs.Prelude.{ℕ, ◌<◌, ◌≡◌, true, false, List, ◌++◌, take, drop}
use Rattle.octets.specs.Numbers.{at}
use Rattle.session.specs.Lent.{Lent, Enough}
use Rattle.receiver.specs.Run.{to_come}
use Rattle.receiver.specs.declared.Receiver.{Receiver}
use Rattle.window.specs.Status.{done}
use Rattle.window.specs.declared.Written.{Written}
use Rattle.table.specs.Table.{rows_from}
use Rattle.table.specs.Form.{known, started}
use Rattle.table.specs.declared.Verdict.{Verdict}
use Rattle.table.specs.declared.Verdict.TheVariants.{Passes}
use Rattle.audit_form.specs.Reads.{brought_by}
use Rattle.audit_form.specs.Reads.{Looped as ReadFirst}
use Rattle.audit_form.specs.declared.Formed.{Formed}
use Rattle.audit_line.specs.Text.{verdict_line}
use Rattle.audit_rows.specs.Right.{RightOf}
use Rattle.audit_run.specs.Loop.{Looped, input_of, table_of, packets_in}
use Rattle.audit_run.specs.Told.{first_status, Tells, Ends}
use Rattle.audit_run.specs.declared.Stopped.{Stopped}

-- Both readings, with room enough for what a session hands out.
pub record Readings (a : Receiver) (kept : List ℕ) : Type 0 where
  pub formed : Formed
  pub buffer : List ℕ
  pub buffer' : List ℕ
  pub reads : ReadFirst buffer formed buffer'
  pub input : List ℕ
  pub rows : List ℕ
  pub lent : Lent
  pub enough : Enough lent
  pub stopped : Stopped
  pub input' : List ℕ
  pub kept' : List ℕ
  pub lent' : Lent
  pub rows' : List ℕ
  pub turns : Looped a (started formed.reading.form) input kept lent rows stopped input' kept' lent' rows'

-- The octets of the table that the first reading brought, the octets of the input, and those of the table's rows that the second brought.
abbrev pub first_read : {a : Receiver} {kept : List ℕ} → Readings a kept → List ℕ
first_read c = brought_by c.reads.made.turns

abbrev pub input_read : {a : Receiver} {kept : List ℕ} → Readings a kept → List ℕ
input_read c = input_of c.turns.made.turns

abbrev pub rows_read : {a : Receiver} {kept : List ℕ} → Readings a kept → List ℕ
rows_read c = table_of c.turns.made.turns

-- They came to an end with a verdict: the first reading reached the file's end and found the table well formed, the input has ended, and no
-- read failed.
pub record Checked {a : Receiver} {kept : List ℕ} (c : Readings a kept) (v : Verdict) : Type 0 where
  pub formed : first_status c.formed (started c.formed.reading.form) ≡ done
  pub ended : c.stopped.state.ended ≡ true
  pub sound : c.stopped.state.audit.read.failed ≡ false
  pub tells : c.stopped.state.audit.verdict ≡ v

-- The packets that were handed out are those that the octets read of the input make, in their order.
abbrev pub HandsOut : Type 0
HandsOut = (a : Receiver) (kept : List ℕ) (c : Readings a kept) (v : Verdict) → Checked c v
    → packets_in c.turns.made.turns ≡ to_come a kept (input_read c)

-- A table as it was read: the first reading would give its form, and its rows begin with the octets that were read of them in the second,
-- whatever stands behind those. It is the table that was read first, if that did not change in between.
pub record AsRead (first more table : List ℕ) : Type 0 where
  pub octets : (i : ℕ) → at table i < 256
  pub same : known table ≡ known first
  pub behind : List ℕ
  pub rows : drop (rows_from (started (known first)).columns) table ≡ more ++ behind

-- The verdict is that of the table on those packets; or that it is badly formed, where fewer octets of its rows were read than they have.
abbrev pub TellsRight : Type 0
TellsRight = (a : Receiver) (kept : List ℕ) (c : Readings a kept) (v : Verdict) → Checked c v
    → (table : List ℕ) → AsRead (first_read c) (rows_read c) table → RightOf table (to_come a kept (input_read c)) (rows_read c) v

-- The exit status is 0 only if the verdict is that the table passes, and this was handed to a write that did not fail.
pub record Passed {a : Receiver} {kept : List ℕ} (c : Readings a kept) (w : Written) (line : List ℕ) : Type 0 where
  pub checked : Checked c Passes
  pub text : take w.size line ≡ verdict_line Passes
  pub written : w.failed ≡ false

abbrev pub DoneIsPassed : Type 0
DoneIsPassed = (a : Receiver) (kept : List ℕ) (c : Readings a kept) → first_status c.formed (started c.formed.reading.form) ≡ done
    → (w : Written) (line : List ℕ) → Tells c.stopped.state w line → Ends c.stopped.state w.failed done → Passed c w line
