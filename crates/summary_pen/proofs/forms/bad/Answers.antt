-- `summary_pen::forms::bad` meets its contract.
use Rattle.summary_pen.proofs.Saying.{none_said}
use Rattle.summary_pen.proofs.InForm.{bad_csv, bad-text}
use borrow.Author.Rules.{rules}
use Rattle.summary_pen.proofs.forms.bad.Goals as goal

pub returns-then-n-eq0 : goal.returns-then-n-eq0
returns-then-n-eq0 c = search (none_said, rules)

pub returns-then-csv : goal.returns-then-csv
returns-then-csv c = search (bad_csv, rules)

pub returns : goal.returns
returns c = search (bad-text, rules)
