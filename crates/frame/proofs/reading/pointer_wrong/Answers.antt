use Rattle.frame.specs.Frame.{pointer_wrong}
use Rattle.frame.proofs.reading.pointer_wrong.Goals as goal

pub returns : goal.returns
unfolding pointer_wrong
returns c = simp c.from.ensures
