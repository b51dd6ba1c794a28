-- `picture_run::black` meets its contract.
use mathlib.Core.Path.{refl}
use Rattle.picture_run.specs.Whole.{black}
use Rattle.picture_run.proofs.black.Goals as goal

pub returns : goal.returns
unfolding black
returns c = refl
