-- The loop has found the first n lines right.
use Rattle.greymap.proofs.Numbered.{Looking}
use Rattle.greymap.proofs.unnumbered_wrong.Given as goal

abbrev pub invariant-loop-n : goal.invariant-loop-n
invariant-loop-n l = Looking l.list l.grey l.n
