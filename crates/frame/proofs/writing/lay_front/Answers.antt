use Rattle.std.proofs.Common.{rules}
use Rattle.frame.proofs.Laying.{front_steps}
use Rattle.frame.proofs.writing.lay_front.Goals as goal

pub returns : goal.returns
returns c = search (front_steps, rules) depth 9
