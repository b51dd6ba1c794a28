-- `summary_pen::pen::row` meets its contract.
use Rattle.summary_pen.proofs.Told.{row-said}
use borrow.Author.Rules.{rules}
use Rattle.summary_pen.proofs.pen.row.Goals as goal

pub returns : goal.returns
returns c = search (row-said, rules)
