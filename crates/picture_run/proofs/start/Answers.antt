-- `picture_run::start` meets its contract.
use Rattle.picture_run.proofs.Whole.{started}
use Rattle.picture_run.proofs.start.Goals as goal

pub returns : goal.returns
returns c =
    started c.args.receiver c.fresh-feed.ensures c.none-read.ensures
