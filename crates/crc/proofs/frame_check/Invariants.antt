use Rattle.std.proofs.Common.{◌+◌, ◌*◌, ◌/◌, length}
use Rattle.bits.specs.Rows.Order.{low_first}
use Rattle.crc.proofs.Passed.{Passed}
use Rattle.crc.proofs.frame_check.Given as goal

abbrev pub invariant-loop-x : goal.invariant-loop-x
invariant-loop-x l = Passed low_first l.octets (length l.octets / 8 * 8 + l.x-index) l.crc
