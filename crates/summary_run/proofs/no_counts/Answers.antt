-- `no_counts` meets its contract.
use mathlib.Core.Path.{refl}
use Rattle.summary_run.specs.Told.{no_counts}
use Rattle.summary_run.proofs.no_counts.Goals as goal

pub returns : goal.returns
unfolding no_counts
returns c = refl
