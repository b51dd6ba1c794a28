-- `layouts::wrong::in_line` meets its contract.
use mathlib.Core.Path.{sym, ◌∙◌}
use Rattle.layouts.proofs.Reasons.{line-ends, in_here, in_later}
use Rattle.layouts.proofs.wrong.in_line.Goals as goal

pub returns-then-text-i-eq10 : goal.returns-then-text-i-eq10
returns-then-text-i-eq10 c =
    sym (c.loop-i.invariant ∙ line-ends c.args.text.now c.loop-i.i c.loop-i-test.true c.args.octet c.if-text-i-eq10.true)

pub returns-then-text-i : goal.returns-then-text-i
returns-then-text-i c =
    sym (c.loop-i.invariant
    ∙ in_here c.args.text.now c.loop-i.i c.loop-i-test.true c.if-text-i-eq10.false c.args.octet c.if-text-i.true)

pub loop-i-preserved : goal.loop-i-preserved
loop-i-preserved c =
    c.loop-i.invariant ∙ in_later c.args.text.now c.loop-i.i c.loop-i-test.true c.if-text-i-eq10.false c.args.octet c.if-text-i.false
