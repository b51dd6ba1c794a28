-- `picture_run::unnoted` meets its contract.
use mathlib.Core.Path.{refl}
use Rattle.picture_run.specs.Whole.{unnoted}
use Rattle.picture_run.proofs.unnoted.Goals as goal

pub returns : goal.returns
unfolding unnoted
returns c = refl
