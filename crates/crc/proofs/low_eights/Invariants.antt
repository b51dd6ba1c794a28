use Rattle.std.proofs.Common.{◌*◌}
use Rattle.crc.proofs.Eights.{Stands}
use Rattle.crc.proofs.low_eights.Given as goal

abbrev pub invariant-loop-k : goal.invariant-loop-k
invariant-loop-k l = Stands l.octets (8 * l.k) l.s
