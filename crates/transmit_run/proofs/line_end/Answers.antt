use Rattle.std.proofs.Common.{◌≡◌, ◌∙◌, length, rules, arith}
use Rattle.transmit_run.proofs.Turning.{begun, one_more, at-a-feed, at_the_end}
use Rattle.transmit_run.proofs.line_end.Goals as goal

pub loop-i-init : goal.loop-i-init
loop-i-init c = begun _ _ c.requires

pub loop-i-preserved : goal.loop-i-preserved
loop-i-preserved c = one_more _ _ _ c.loop-i.invariant c.loop-i-test.true c.if-s-i-eq10.false

pub returns-then-s-i-eq10 : goal.returns-then-s-i-eq10
returns-then-s-i-eq10 c =
    let b = c.loop-i.invariant in
    record { is = at-a-feed _ _ _ b c.loop-i-test.true c.if-s-i-eq10.true; behind = b.behind; inside = b.inside; counted = search rules }

pub returns : goal.returns
returns c =
    let b = c.loop-i.invariant in
    let e : length c.args.s.now ≡ c.loop-i.i = omega (arith, b.inside) in
    record { is = e ∙ at_the_end _ _ _ b (search rules); behind = c.requires; inside = omega arith; counted = search rules }
