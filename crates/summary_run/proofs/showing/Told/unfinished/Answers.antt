-- `showing::Told::unfinished` meets its contract.
use mathlib.Core.Path.{ap}
use mathlib.Core.Bool.{Bool, not, ◌||◌}
use Rattle.summary_run.proofs.showing.Told.unfinished.Goals as goal

pub returns : goal.returns
returns c =
    ap (λ (b : Bool). not c.args.self.page.whole || b) c.failed.ensures
