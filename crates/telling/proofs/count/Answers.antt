-- `telling::count` meets its contract.
use Rattle.std.proofs.Common.{refl, sym}
use lib.Seq.{set_out}
use Rattle.telling.specs.Counts.{counted}
use Rattle.telling.proofs.count.Goals as goal

pub returns-then-n-counts : goal.returns-then-n-counts
unfolding counted
returns-then-n-counts c = refl

pub returns-else-n-counts : goal.returns-else-n-counts
unfolding counted
returns-else-n-counts c = sym (set_out _ _ _ c.if-n-counts.false)
