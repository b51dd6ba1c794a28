-- `next` meets its contract.
use Rattle.std.proofs.Common.{◌≡◌, ◌<◌, ◌≤◌, length, refl, ◌∙◌, arith}
use Rattle.telling.proofs.Numbers.{any_here, none_here, none_left}
use Rattle.telling.proofs.next.Goals as goal

pub loop-i-init : goal.loop-i-init
loop-i-init c = (refl, omega arith)

pub returns-then-counts-i-ne0 : goal.returns-then-counts-i-ne0
returns-then-counts-i-ne0 c =
    let h : c.loop-i.i < length c.args.counts.now = omega arith in
    any_here c.args.counts.now c.args.from c.loop-i.i c.loop-i.invariant.0 h c.if-counts-i-ne0.true

pub loop-i-preserved : goal.loop-i-preserved
loop-i-preserved c =
    let h : c.loop-i.i < length c.args.counts.now = omega arith in
    (none_here c.args.counts.now c.args.from c.loop-i.i c.loop-i.invariant.0 h (omega (arith, c.if-counts-i-ne0.false)), omega arith)

pub returns : goal.returns
returns c =
    let h : length c.args.counts.now ≤ c.loop-i.i = omega arith in
    let e : c.max.result ≡ c.loop-i.i = omega (arith, c.max.ensures) in
    e ∙ none_left c.args.counts.now c.args.from c.loop-i.i c.loop-i.invariant.0 h
