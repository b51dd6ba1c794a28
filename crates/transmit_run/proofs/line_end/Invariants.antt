-- The loop has found no line feed before index i.
use Rattle.transmit_run.proofs.Turning.{Before}
use Rattle.transmit_run.proofs.line_end.Given as goal

abbrev pub invariant-loop-i : goal.invariant-loop-i
invariant-loop-i l = Before l.s l.at l.i
