-- `summary_pen::forms::other_lines` meets its contract.
use Rattle.summary_pen.proofs.Saying.{none_said}
use Rattle.summary_pen.proofs.InForm.{other_lines_csv, other-lines-text}
use borrow.Author.Rules.{rules}
use Rattle.summary_pen.proofs.forms.other_lines.Goals as goal

pub returns-then-n-eq0 : goal.returns-then-n-eq0
returns-then-n-eq0 c = search (none_said, rules)

pub returns-then-csv : goal.returns-then-csv
returns-then-csv c = search (other_lines_csv, rules)

pub returns : goal.returns
returns c = search (other-lines-text, rules)
