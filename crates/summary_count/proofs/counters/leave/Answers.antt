-- `counters::leave` meets its contract.
use mathlib.Core.Path.{sym}
use lib.Seq.{set_out}
use Rattle.summary_count.proofs.counters.leave.Goals as goal

pub returns-else-i-counts : goal.returns-else-i-counts
returns-else-i-counts c = sym (set_out _ _ _ c.if-i-counts.false)
