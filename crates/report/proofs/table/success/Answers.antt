use Rattle.report.specs.Table.{success}
use Rattle.report.proofs.Search.{of_one}
use Rattle.report.proofs.table.success.Goals as goal

pub returns : goal.returns
unfolding success
returns c p e f = simp (e, f, of_one)
