-- `picture_run::show_image` meets its contract.
use mathlib.Core.Path.{◌∙◌}
use mir.Syntax.{w32}
use mir.Facts.{to_z-of_z}
use Rattle.picture_run.proofs.Whole.{shown}
use borrow.Author.Rules.{rules}
use Rattle.picture_run.proofs.show_image.Goals as goal

pub returns : goal.returns
returns c =
    shown c.black-pixels.ensures c.unnoted-images.ensures c.turns-stopped.ensures c.finish-ended.ensures
    (to_z-of_z {w = w32} (search rules) ∙ c.status.ensures)
