-- `ending::emit` meets its contract.
use mathlib.Core.Path.{ap, ◌∙◌}
use lib.ListN.{length}
use Rattle.picture_run.proofs.Whole.{whole-hand}
use Rattle.picture_run.proofs.ending.emit.Goals as goal

pub returns : goal.returns
returns c =
    c.write.ensures ∙ ap length (whole-hand c.args.octets.now ∙ c.requires)
