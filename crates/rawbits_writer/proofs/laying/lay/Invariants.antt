-- The frames so far are laid.
use Rattle.rawbits_writer.proofs.Laid.{Laying}
use Rattle.rawbits_writer.proofs.laying.lay.Given as goal

abbrev pub invariant-loop-length : goal.invariant-loop-length
invariant-loop-length l = Laying l.octets l.lengths l.initial.pen l.initial.out l.pen l.out l.at l.length-index
