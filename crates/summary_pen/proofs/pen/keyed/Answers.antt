-- `summary_pen::pen::keyed` meets its contract.
use Rattle.summary_pen.proofs.Told.{keyed-said}
use borrow.Author.Rules.{rules}
use Rattle.summary_pen.proofs.pen.keyed.Goals as goal

pub returns : goal.returns
returns c = search (keyed-said, rules)
