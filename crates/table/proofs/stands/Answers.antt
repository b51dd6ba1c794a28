-- `table::stands` meets its contract.
use native.Mathlib.Omega.{arith}
use Rattle.table.proofs.Values.{absent, too_wide, comparing}
use Rattle.table.proofs.stands.Goals as goal

pub returns-then-packet-at : goal.returns-then-packet-at
returns-then-packet-at c = absent _ _ _ (omega arith)

pub returns-then-n-gt8 : goal.returns-then-n-gt8
returns-then-n-gt8 c = too_wide _ _ _ (omega arith) (omega arith) (omega arith)

pub returns : goal.returns
returns c =
    comparing _ _ c.from-at.ensures c.from-n.ensures (omega arith) (omega arith) c.part.ensures c.put.ensures
    c.same.ensures
