use Rattle.crc.proofs.Halves.{Halves}
use Rattle.crc.proofs.packet_check.Given as goal

abbrev pub invariant-loop-x : goal.invariant-loop-x
invariant-loop-x l = Halves l.table l.octets l.x-index l.crc
