-- The loop has read a number for each line before this one.
use Rattle.std.proofs.Common.{◌≤◌, ◌<◌, arith}
use Rattle.image.specs.Line.{image_lines}
use Rattle.greymap.proofs.Numbered.{one-listed, wrong-listed, more_left, all_listed}
use Rattle.greymap.proofs.numbers_in.Goals as goal

pub returns-in_err-n : goal.returns-in_err-n
returns-in_err-n c =
    let l = c.loop-number in
    let inside : l.number-index < image_lines = omega arith in
    rw c.from_residual.ensures (wrong-listed c.args.text.now l.number-items l.at l.number-index l.invariant inside c.read.ensures c.in_err-n.was)

pub loop-number-preserved : goal.loop-number-preserved
loop-number-preserved c =
    let l = c.loop-number in
    let inside : l.number-index < image_lines = omega arith in
    one-listed c.args.text.now l.number-items l.at l.number-index l.invariant inside c.read.ensures c.in_ok-n.was

pub returns-then-at-text : goal.returns-then-at-text
returns-then-at-text c =
    let l = c.loop-number in
    let end : image_lines ≤ l.number-index = omega arith in
    more_left c.args.text.now l.number-items l.at l.number-index l.invariant end c.if-at-text.true

pub returns : goal.returns
returns c =
    let l = c.loop-number in
    let end : image_lines ≤ l.number-index = omega arith in
    all_listed c.args.text.now l.number-items l.at l.number-index l.invariant end c.if-at-text.false
