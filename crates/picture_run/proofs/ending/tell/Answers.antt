-- `picture_run::ending::tell` meets its contract.
use mathlib.Core.Path.{ap}
use lib.ListN.{length}
use Rattle.picture_run.proofs.ending.tell.Goals as goal

pub returns : goal.returns
returns c =
    ap length c.requires
