-- `summary_pen::lines::both` meets its contract.
use Rattle.summary_pen.proofs.Told.{both-said}
use borrow.Author.Rules.{rules}
use Rattle.summary_pen.proofs.lines.both.Goals as goal

pub returns : goal.returns
returns c = search (both-said, rules)
