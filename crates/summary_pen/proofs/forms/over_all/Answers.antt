-- `summary_pen::forms::over_all` meets its contract.
use Rattle.summary_pen.proofs.Saying.{none_said}
use Rattle.summary_pen.proofs.InForm.{over_all_csv, over-all-text}
use borrow.Author.Rules.{rules}
use Rattle.summary_pen.proofs.forms.over_all.Goals as goal

pub returns-then-accepted-eq0 : goal.returns-then-accepted-eq0
returns-then-accepted-eq0 c = search (none_said, rules)

pub returns-then-csv : goal.returns-then-csv
returns-then-csv c = search (over_all_csv, rules)

pub returns : goal.returns
returns c = search (over-all-text, rules)
