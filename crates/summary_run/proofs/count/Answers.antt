-- `count` meets its contract.
use Rattle.summary_run.proofs.Whole.{counted}
use Rattle.summary_run.proofs.count.Goals as goal

pub returns : goal.returns
returns c =
    counted c.turns-stopped.ensures c.judge.ensures
