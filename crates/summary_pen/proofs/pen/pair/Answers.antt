-- `summary_pen::pen::pair` meets its contract.
use Rattle.summary_pen.proofs.Told.{pair-said}
use borrow.Author.Rules.{rules}
use Rattle.summary_pen.proofs.pen.pair.Goals as goal

pub returns : goal.returns
returns c = search (pair-said, rules)
