-- `summary_pen::forms::begin` meets its contract.
use Rattle.summary_pen.proofs.InForm.{begin_csv, begin_text}
use borrow.Author.Rules.{rules}
use Rattle.summary_pen.proofs.forms.begin.Goals as goal

pub returns-then-csv : goal.returns-then-csv
returns-then-csv c = search (begin_csv, rules)

pub returns : goal.returns
returns c = search (begin_text, rules)
