use Rattle.packet.specs.Packet.{fields_of}
use Rattle.packet.proofs.fields.Goals as goal

pub returns : goal.returns
unfolding fields_of
returns c = simp (c.five.ensures, c.word-2.ensures, c.word.ensures)
