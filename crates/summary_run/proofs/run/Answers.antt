-- `run` meets its contract.
use mir.Syntax.{w32}
use mir.Facts.{to_z-of_z}
use Rattle.summary_run.proofs.Whole.{ran}
use borrow.Author.Rules.{rules}
use Rattle.summary_run.proofs.run.Goals as goal

pub returns : goal.returns
returns c =
    ran c.no_counts-counts.ensures c.count-stopped.ensures c.finish.ensures (to_z-of_z {w = w32} (search rules))
