use Rattle.report.specs.Table.{failure}
use Rattle.report.proofs.Search.{of_one}
use Rattle.report.proofs.table.failure.Goals as goal

pub returns : goal.returns
unfolding failure
returns c p e f = simp (e, f, of_one)
