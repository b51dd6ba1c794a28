-- The low i bits of the octet are written.
use Rattle.rawbits_writer.proofs.Penning.{Turns}
use Rattle.rawbits_writer.proofs.laying.Pen.octet.Given as goal

abbrev pub invariant-loop-i : goal.invariant-loop-i
invariant-loop-i l = Turns l.initial.pen l.octet l.pen l.rest l._i
