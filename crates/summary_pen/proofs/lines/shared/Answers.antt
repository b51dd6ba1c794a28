-- `summary_pen::lines::shared` meets its contract.
use Rattle.summary_pen.proofs.Told.{shared-said}
use borrow.Author.Rules.{rules}
use Rattle.summary_pen.proofs.lines.shared.Goals as goal

pub returns : goal.returns
returns c = search (shared-said, rules)
