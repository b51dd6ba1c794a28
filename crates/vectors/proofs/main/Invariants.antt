-- `main` is safe and ends.
use Rattle.std.proofs.Common.{◌≡◌, length}
use Rattle.vectors.proofs.main.Given as goal

abbrev pub invariant-loop-left : goal.invariant-loop-left
invariant-loop-left l = 4 ≡ length l.head

abbrev pub decreases-loop-left : goal.decreases-loop-left
decreases-loop-left l = l.left
