use Rattle.std.proofs.Common.{◌∙◌}
use Rattle.octets.proofs.Comparing.{pointwise_same}
use Rattle.octets.proofs.same.Goals as goal

pub returns : goal.returns
returns c = c.eq.ensures ∙ pointwise_same _ _
