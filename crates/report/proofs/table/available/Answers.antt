use Rattle.report.specs.Table.{available}
use Rattle.report.proofs.table.available.Goals as goal

pub returns : goal.returns
unfolding available
returns c p e f = simp (e, f)
