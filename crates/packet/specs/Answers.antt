-- What the calls answer.
use Rattle.std.specs.Prelude.{Result}
use Rattle.answer.specs.declared.Reason.{Reason}
use Rattle.packet.specs.declared.Packet.{Packet}

-- What reading gives: the packet's fields, or why it is refused.
abbrev pub PacketRead : Type 0
PacketRead = Result Packet Reason
