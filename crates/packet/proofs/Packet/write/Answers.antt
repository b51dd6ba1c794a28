use Rattle.answer.proofs.Writer.{refused_51, refused_50, wrote}
use Rattle.packet.proofs.Laws.{short, long, octets-length, room}
use Rattle.packet.proofs.Packet.write.Goals as goal

pub returns-then-fields_wrong : goal.returns-then-fields_wrong
returns-then-fields_wrong c = search refused_51

pub returns-then-out-n : goal.returns-then-out-n
returns-then-out-n c = search (refused_50, short)

pub lay-requires : goal.lay-requires
lay-requires c = search room

pub returns : goal.returns
returns c = search (wrote, long, octets-length)
