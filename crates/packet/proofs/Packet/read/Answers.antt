-- Each return passes the refusals before it.
use Rattle.octets.proofs.Choices.{answers}
use Rattle.answer.proofs.Told.{accept-same}
use Rattle.packet.specs.Packet.{read_packet}
use Rattle.packet.proofs.Laws.{long-enough}
use Rattle.packet.proofs.Packet.read.Goals as goal

pub returns-then-length_wrong : goal.returns-then-length_wrong
unfolding read_packet
returns-then-length_wrong c = search answers

pub check_wrong-requires : goal.check_wrong-requires
check_wrong-requires c = search long-enough

pub returns-then-check_wrong : goal.returns-then-check_wrong
unfolding read_packet
returns-then-check_wrong c = search answers depth 9

pub bits_wrong-requires : goal.bits_wrong-requires
bits_wrong-requires c = search long-enough

pub returns-then-bits_wrong : goal.returns-then-bits_wrong
unfolding read_packet
returns-then-bits_wrong c = search answers depth 9

pub fields-requires : goal.fields-requires
fields-requires c = search long-enough

pub returns : goal.returns
unfolding read_packet
returns c = search (answers, accept-same) depth 9
