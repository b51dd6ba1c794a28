-- The octets so far are written.
use Rattle.rawbits_writer.proofs.Writing.{Body}
use Rattle.rawbits_writer.proofs.laying.Pen.body.Given as goal

abbrev pub invariant-loop-octet : goal.invariant-loop-octet
invariant-loop-octet l = Body l.initial.pen l.initial.out l.frame l.pen l.out l.octet-index
