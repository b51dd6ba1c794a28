-- `summary_pen::pen::told` meets its contract.
use Rattle.summary_pen.proofs.Saying.{told-said}
use borrow.Author.Rules.{rules}
use Rattle.summary_pen.proofs.pen.told.Goals as goal

pub returns : goal.returns
returns c = search (told-said, rules)
