use Rattle.decimal.proofs.Reading.{Reading}
use Rattle.decimal.proofs.read.Given as goal

abbrev pub invariant-loop-end : goal.invariant-loop-end
invariant-loop-end l = Reading l.text l.at l.n l.end
