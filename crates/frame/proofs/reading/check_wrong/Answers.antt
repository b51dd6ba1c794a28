use Rattle.crc.specs.Check.{check_wrong}
use Rattle.frame.proofs.reading.check_wrong.Goals as goal

pub returns : goal.returns
unfolding check_wrong
returns c = simp (c.frame_check.ensures, c.word.ensures)
