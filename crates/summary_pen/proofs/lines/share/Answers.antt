-- `summary_pen::lines::share` meets its contract.
use Rattle.summary_pen.proofs.Told.{share-said}
use borrow.Author.Rules.{rules}
use Rattle.summary_pen.proofs.lines.share.Goals as goal

pub returns : goal.returns
returns c = search (share-said, rules)
