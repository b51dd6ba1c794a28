-- None of the frames so far is turned away.
use Rattle.kiss_writer.proofs.Refusing.{Good}
use Rattle.kiss_writer.proofs.first_bad.Given as goal

abbrev pub invariant-loop-length : goal.invariant-loop-length
invariant-loop-length l = Good l.t l.octets l.lengths l.at l.length-index
