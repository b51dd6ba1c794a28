-- `summary_pen::lines::losses` meets its contract.
use Rattle.summary_pen.proofs.Told.{losses-said}
use borrow.Author.Rules.{rules}
use Rattle.summary_pen.proofs.lines.losses.Goals as goal

pub returns : goal.returns
returns c = search (losses-said, rules)
