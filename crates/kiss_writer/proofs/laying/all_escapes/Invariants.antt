-- So many octets of the frames so far are escaped.
use Rattle.kiss_writer.proofs.Blocks.{Summing}
use Rattle.kiss_writer.proofs.laying.all_escapes.Given as goal

abbrev pub invariant-loop-length : goal.invariant-loop-length
invariant-loop-length l = Summing l.octets l.lengths l.count l.at l.length-index
