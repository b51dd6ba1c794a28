-- The loop is done with the first packets.
use Rattle.audit_rows.proofs.Frames.{Going}
use Rattle.audit_rows.proofs.Audit.packets.Given as goal

abbrev pub invariant-loop-length : goal.invariant-loop-length
invariant-loop-length l =
    Going l.octets l.lengths l.packets l.arrival l.initial.audit l.initial.rows l.from l.length-index l.audit l.rows
