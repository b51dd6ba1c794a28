-- `summary_pen::forms::frames` meets its contract.
use Rattle.summary_pen.proofs.InForm.{none_of_both, frames_csv, frames-text}
use borrow.Author.Rules.{rules}
use Rattle.summary_pen.proofs.forms.frames.Goals as goal

pub returns-then-all-eq0 : goal.returns-then-all-eq0
returns-then-all-eq0 c = search (none_of_both, rules)

pub returns-then-csv : goal.returns-then-csv
returns-then-csv c = search (frames_csv, rules)

pub returns : goal.returns
returns c = search (frames-text, rules)
