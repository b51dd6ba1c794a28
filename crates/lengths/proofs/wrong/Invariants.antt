use Rattle.lengths.proofs.Left.{Left}
use Rattle.lengths.proofs.wrong.Given as goal

abbrev pub invariant-loop-x : goal.invariant-loop-x
invariant-loop-x l = Left l.lengths l.n l.left l.x-index
