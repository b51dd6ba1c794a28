-- `audit_rows::Audit::beside` meets its contract. The loop has looked so often beside the packet.
use Rattle.table.specs.Look.{handed}
use Rattle.audit_rows.proofs.Reading.{Beside, turns_left}
use Rattle.audit_rows.proofs.Audit.beside.Given as goal

abbrev pub invariant-loop-done : goal.invariant-loop-done
invariant-loop-done l =
    Beside l.initial.audit l.initial.rows (handed l.packet l.arrival) l.audit l.done l.rows

abbrev pub decreases-loop-done : goal.decreases-loop-done
decreases-loop-done l = turns_left l.audit l.rows l.done
