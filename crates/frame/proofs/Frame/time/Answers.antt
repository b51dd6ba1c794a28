use Rattle.std.proofs.Common.{arith}
use Rattle.octets.proofs.Placing.{part_none}
use Rattle.frame.proofs.Frame.time.Goals as goal

pub returns-then-octets-self : goal.returns-then-octets-self
returns-then-octets-self c = part_none _ _ _ (omega arith)
