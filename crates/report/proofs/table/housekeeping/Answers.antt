use Rattle.report.specs.Table.{housekeeping}
use Rattle.report.proofs.table.housekeeping.Goals as goal

pub returns : goal.returns
unfolding housekeeping
returns c p e f = simp (e, f)
