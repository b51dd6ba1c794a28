use Rattle.std.proofs.Common.{rules}
use Rattle.lengths.proofs.Left.{left-next, left-short}
use Rattle.lengths.proofs.wrong.Goals as goal

pub returns-then-left-length : goal.returns-then-left-length
returns-then-left-length c = left-short c.loop-x.invariant (search rules) (rw c.from-length.ensures at c.if-left-length.true)

pub loop-x-preserved : goal.loop-x-preserved
loop-x-preserved c = rw c.from-length.ensures (left-next c.loop-x.invariant (search rules) (rw c.from-length.ensures at c.if-left-length.false))
