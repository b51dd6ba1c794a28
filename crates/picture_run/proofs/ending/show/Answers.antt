-- `ending::show` meets its contract.
use mathlib.Core.Path.{sym, ap, ◌∙◌}
use mathlib.Core.Bool.{Bool}
use lib.ListN.{length}
use Rattle.image.specs.Line.{image_of}
use Rattle.picture_run.specs.Files.{shown_of}
use borrow.Author.Rules.{rules}
use Rattle.picture_run.proofs.ending.show.Goals as goal

pub draw-drawn-requires : goal.draw-drawn-requires
draw-drawn-requires c =
    record { whole = c.requires; grey = search rules; text = search rules }

pub emit-requires : goal.emit-requires
emit-requires c =
    c.part.ensures ∙ c.draw-drawn.ensures.text

pub emit-requires-2 : goal.emit-requires-2
emit-requires-2 c =
    c.part-2.ensures ∙ c.draw-drawn.ensures.grey

pub returns-then-lines : goal.returns-then-lines
returns-then-lines c =
    let a = c.args in
    c.emit.ensures ∙ ap (λ (b : Bool). length (shown_of b (image_of a.pixels.now a.numbers.now)))
    (sym c.if-lines.true)

pub returns : goal.returns
returns c =
    let a = c.args in
    c.emit-2.ensures ∙ ap (λ (b : Bool). length (shown_of b (image_of a.pixels.now a.numbers.now)))
    (sym c.if-lines.false)
