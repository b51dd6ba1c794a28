-- The octets so far are laid.
use Rattle.kiss_writer.proofs.Escaping.{Block}
use Rattle.kiss_writer.proofs.laying.lay_block.Given as goal

abbrev pub invariant-loop-x : goal.invariant-loop-x
invariant-loop-x l = Block l.initial.out l.body l.initial.n l.out l.n l.x-index
