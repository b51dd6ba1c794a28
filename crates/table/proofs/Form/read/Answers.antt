-- `table::Form::read` meets its contract.
use native.Mathlib.Omega.{arith}
use mathlib.Core.Path.{sym}
use lib.Seq.{length-take-le}
use Rattle.table.proofs.Forming.{grows}
use Rattle.table.proofs.Form.read.Goals as goal

pub slice_bounds-put-end-2 : goal.slice_bounds-put-end-2
slice_bounds-put-end-2 c = sym (length-take-le _ _ (omega arith))

pub returns : goal.returns
returns c =
    grows _ _ c.min-room.ensures c.min-n.ensures c.put.ensures c.min-before.ensures c.min.ensures
