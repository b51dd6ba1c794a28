-- `table::Form::fresh` meets its contract.
use mathlib.Core.Path.{refl}
use Rattle.table.specs.Form.{known}
use Rattle.table.proofs.Form.fresh.Goals as goal

pub returns : goal.returns
unfolding known
returns c = refl
