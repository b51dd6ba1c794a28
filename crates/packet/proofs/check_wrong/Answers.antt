use Rattle.crc.specs.Check.{check_wrong}
use Rattle.packet.proofs.check_wrong.Goals as goal

pub returns : goal.returns
unfolding check_wrong
returns c = simp (c.packet_check.ensures, c.word.ensures)
