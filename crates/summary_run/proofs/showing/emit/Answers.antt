-- `showing::emit` meets its contract.
use mathlib.Core.Path.{ap, ◌∙◌}
use lib.ListN.{length}
use Rattle.summary_run.proofs.showing.emit.Goals as goal

pub returns : goal.returns
returns c =
    c.write.ensures ∙ ap length c.requires
