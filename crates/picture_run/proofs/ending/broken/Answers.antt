-- `picture_run::ending::broken` meets its contract.
use mathlib.Core.Path.{ap}
use mathlib.Core.Bool.{Bool, ◌||◌}
use Rattle.picture_run.proofs.ending.broken.Goals as goal

pub returns : goal.returns
returns c =
    ap (λ (b : Bool). c.args.stopped.state.going || b) c.failed.ensures
