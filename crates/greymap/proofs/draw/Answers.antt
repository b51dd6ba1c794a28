-- The loop has drawn the first n lines.
use Rattle.std.proofs.Common.{rules}
use Rattle.greymap.proofs.Shown.{one_drawn, all_drawn}
use Rattle.greymap.proofs.draw.Goals as goal

pub loop-n-preserved : goal.loop-n-preserved
loop-n-preserved c =
    let l = c.loop-n in
    one_drawn c.args.image.now c.args.lines.now _ l.grey _ _ l.n c.requires.whole (search rules) l.invariant c.part.ensures
    c.draw_line.ensures c.draw_line.auto.grey

pub returns : goal.returns
returns c =
    all_drawn c.args.image.now c.args.lines.now _ _ c.args.grey.now c.loop-n.n c.loop-n-test.false
    c.loop-n.invariant
    c.put.ensures c.requires.room
