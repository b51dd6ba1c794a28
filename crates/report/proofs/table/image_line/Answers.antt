use Rattle.report.specs.Table.{image_line}
use Rattle.report.proofs.table.image_line.Goals as goal

pub returns : goal.returns
unfolding image_line
returns c p e f = simp (e, f)
