use Rattle.frame.specs.Frame.{status_wrong}
use Rattle.frame.proofs.reading.status_wrong.Goals as goal

pub returns : goal.returns
unfolding status_wrong
returns c = simp (c.flag.ensures, c.from.ensures)
