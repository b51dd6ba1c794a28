-- `summary_pen::forms::others` meets its contract.
use Rattle.summary_pen.proofs.Saying.{none_said}
use Rattle.summary_pen.proofs.InForm.{others_csv, others-text}
use borrow.Author.Rules.{rules}
use Rattle.summary_pen.proofs.forms.others.Goals as goal

pub returns-then-n-eq0 : goal.returns-then-n-eq0
returns-then-n-eq0 c = search (none_said, rules)

pub returns-then-csv : goal.returns-then-csv
returns-then-csv c = search (others_csv, rules)

pub returns : goal.returns
returns c = search (others-text, rules)
