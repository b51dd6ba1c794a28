-- What the calls answer.
use Rattle.std.specs.Prelude.{Option, Result}
use Rattle.answer.specs.declared.Reason.{Reason}
use Rattle.report.specs.declared.Report.{Report}
use Rattle.report.specs.declared.table.Pair.{Pair}

-- What reading gives: the report, or why it is refused.
abbrev pub ReportRead : Type 0
ReportRead = Result Report Reason

-- What the search of the table gives: the pair, if it has it.
abbrev pub Found : Type 0
Found = Option Pair
