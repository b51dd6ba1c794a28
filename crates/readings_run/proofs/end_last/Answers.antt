-- `end_last` meets its contract.
use Rattle.std.proofs.Common.{sym, rules}
use lib.Seq.{set_out}
use Rattle.readings_run.proofs.end_last.Goals as goal

pub returns-else-n-starts : goal.returns-else-n-starts
returns-else-n-starts c = sym (set_out _ _ _ c.if-n-starts.false)
