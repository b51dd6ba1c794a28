-- `table::Check::look` meets its contract. The loop has looked at the rows before index at.
use Prim.Native.Nat.{◌≤◌, ◌-◌}
use lib.ListN.{length}
use Rattle.table.specs.Look.{handed}
use Rattle.table.proofs.Looking.{Stands}
use Rattle.table.proofs.Check.look.Given as goal

abbrev pub invariant-loop-check : goal.invariant-loop-check
invariant-loop-check l =
    (l.at ≤ length l.rows) × Stands l.initial.check l.rows (handed l.packet l.arrival) l.check l.at

abbrev pub decreases-loop-check : goal.decreases-loop-check
decreases-loop-check l = length l.rows - l.at
