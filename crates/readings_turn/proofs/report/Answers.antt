-- `report` meets its contract.
use mathlib.Core.Path.{◌∙◌}
use Rattle.readings_turn.proofs.Loop.{reported}
use borrow.Author.Rules.{rules}
use Rattle.readings_turn.proofs.report.Goals as goal

pub returns : goal.returns
returns c =
    reported c.begun-begun.ensures
    c.begun-begun.auto.out
    c.written-first.ensures c.turns-stopped.ensures
    c.written-standing.ensures
