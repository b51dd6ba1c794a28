use Rattle.decimal.proofs.Decimal.{Counting}
use Rattle.decimal.proofs.places.Given as goal

abbrev pub invariant-loop-k : goal.invariant-loop-k
invariant-loop-k l = Counting l.n l.k l.bound
