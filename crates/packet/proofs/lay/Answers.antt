use Rattle.std.proofs.Common.{rules}
use Rattle.packet.proofs.Laws.{laid}
use Rattle.packet.proofs.lay.Goals as goal

pub returns : goal.returns
returns c = search (laid, rules) depth 9
