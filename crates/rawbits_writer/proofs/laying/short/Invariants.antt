-- So many octets are left of the room, and so many bits of the next octet are taken.
use Rattle.rawbits_writer.proofs.Counting.{Counting}
use Rattle.rawbits_writer.proofs.laying.short.Given as goal

abbrev pub invariant-loop-length : goal.invariant-loop-length
invariant-loop-length l = Counting l.octets l.lengths l.room l.left l.part l.at l.length-index
