-- Demand 2 for the reports: the reader and the writers undo one another. (Over the calls, by their generated contracts: proofs/Calls.)
use Rattle.std.specs.Prelude.{ℕ, ◌<◌, ◌≡◌, List, false}
use Rattle.octets.specs.Numbers.{at}
use Rattle.answer.specs.Told.{accept}
use Rattle.report.specs.Report.{read_report}
use Rattle.report.specs.Write.{strings_of, report_wrong, report_octets}
use Rattle.report.specs.declared.Report.{Report}

-- What was written is accepted and reads back to the same fields and strings.
pub record ReadBack (r : Report) (strings : List (List ℕ)) : Type 0 where
  pub fields : read_report (report_octets r strings) ≡ accept r
  pub parts : strings_of r.content (report_octets r strings) ≡ strings

abbrev pub ReadsBack : Type 0
ReadsBack = (r : Report) (strings : List (List ℕ)) → report_wrong r strings ≡ false → ReadBack r strings

-- What was accepted is what the writer gives for its fields and strings, and the writer accepts them.
pub record WrittenBack (r : Report) (s : List ℕ) : Type 0 where
  pub accepts : report_wrong r (strings_of r.content s) ≡ false
  pub octets : report_octets r (strings_of r.content s) ≡ s

abbrev pub WritesBack : Type 0
WritesBack = (s : List ℕ) (r : Report) → ((i : ℕ) → at s i < 256) → read_report s ≡ accept r → WrittenBack r s
