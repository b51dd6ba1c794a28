-- The frames so far are laid.
use Rattle.kiss_writer.proofs.Blocks.{Writing}
use Rattle.kiss_writer.proofs.laying.lay.Given as goal

abbrev pub invariant-loop-length : goal.invariant-loop-length
invariant-loop-length l = Writing l.octets l.lengths l.initial.out l.out l.end l.at l.length-index
