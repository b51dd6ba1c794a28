-- The loop has found the first n lines right.
use Rattle.std.proofs.Common.{arith, ◌<◌}
use Rattle.image.specs.Line.{image_lines}
use Rattle.greymap.specs.Picture.{blank}
use Rattle.greymap.proofs.Numbered.{wrong-line, right-line}
use Rattle.greymap.proofs.unnumbered_wrong.Goals as goal

pub returns-then-number-same : goal.returns-then-number-same
unfolding blank
returns-then-number-same c =
    let l = c.loop-n in
    let inside : l.n < image_lines = omega arith in
    wrong-line c.args.list.now c.args.grey.now l.n c.requires l.invariant inside c.part-pixels.ensures
    c.same.ensures c.if-number-same.true

pub loop-n-preserved : goal.loop-n-preserved
unfolding blank
loop-n-preserved c =
    let l = c.loop-n in
    let inside : l.n < image_lines = omega arith in
    right-line c.args.list.now c.args.grey.now l.n c.requires l.invariant inside c.part-pixels.ensures
    c.same.ensures c.if-number-same.false
