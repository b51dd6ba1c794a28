-- `layouts::wrong::second` meets its contract.
use native.Mathlib.Omega.{arith}
use Rattle.layouts.proofs.Reasons.{word-ends, space-here, space-later}
use Rattle.layouts.proofs.wrong.second.Goals as goal

pub returns-then-text-i-eq10 : goal.returns-then-text-i-eq10
returns-then-text-i-eq10 c =
    let e = word-ends c.args.text.now c.loop-i.i c.loop-i-test.true c.if-text-i-eq10.true in
    omega (arith, c.loop-i.invariant, e)

pub returns-then-text-i-eq32 : goal.returns-then-text-i-eq32
returns-then-text-i-eq32 c =
    let e = space-here c.args.text.now c.loop-i.i c.loop-i-test.true c.if-text-i-eq10.false c.if-text-i-eq32.true in
    omega (arith, c.loop-i.invariant, e)

pub loop-i-preserved : goal.loop-i-preserved
loop-i-preserved c =
    let e = space-later c.args.text.now c.loop-i.i c.loop-i-test.true c.if-text-i-eq10.false c.if-text-i-eq32.false in
    omega (arith, c.loop-i.invariant, e)
