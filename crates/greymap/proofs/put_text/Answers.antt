-- `greymap::put_text` meets its contract.
use mathlib.Core.Path.{refl, sym}
use lib.Seq.{length-take-le}
use Rattle.image.specs.Line.{image_lines}
use Rattle.greymap.proofs.Wrote.{text-put}
use Rattle.greymap.proofs.put_text.Goals as goal

pub slice_bounds-numbers-end-2 : goal.slice_bounds-numbers-end-2
slice_bounds-numbers-end-2 c =
    sym (length-take-le image_lines c.args.lines.now c.requires)

pub returns : goal.returns
returns c =
    let n = c.numbers-n in
    text-put c.args.lines.now _ _ c.args.text.now _ _ n.result c.requires refl n.auto.out n.ensures c.part.ensures
    c.put.ensures
