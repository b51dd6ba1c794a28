use Rattle.words.proofs.Counting.{Counted}
use Rattle.words.proofs.number.Given as goal

abbrev pub invariant-loop-x : goal.invariant-loop-x
invariant-loop-x l = Counted l.s l.n l.x-index
