-- `turns` meets its contract.
use mathlib.Core.Path.{refl, ◌∙◌}
use native.Mathlib.Omega.{arith}
use Rattle.receiver.specs.Run.{roomy}
use Rattle.summary_run.proofs.Whole.{not_gone, gone_on, looped, looped-all}
use Rattle.summary_run.proofs.turns.Goals as goal

pub loop-state-init : goal.loop-state-init
loop-state-init c = (refl, refl, refl, refl, refl, refl, refl, refl, omega arith, not_gone)

pub returns-then-made : goal.returns-then-made
unfolding roomy
returns-then-made c =
    looped-all c.args.receiver c.fresh-feed.ensures c.none-read.ensures c.loop-state.invariant.9 c.if-made.true

pub overflow_add-made : goal.overflow_add-made
overflow_add-made c =
    omega (arith, c.loop-state.invariant.8, c.if-made.false)

pub loop-state-smaller : goal.loop-state-smaller
loop-state-smaller c =
    omega (arith, c.loop-state.invariant.8, c.if-made.false)

pub loop-state-preserved : goal.loop-state-preserved
loop-state-preserved c =
    let t = c.turn-state in
    let l = c.loop-state in (
      t.auto.input ∙ l.invariant.0,
      t.auto.counts ∙ l.invariant.1,
      t.auto.keys ∙ l.invariant.2,
      t.auto.many ∙ l.invariant.3,
      t.auto.last ∙ l.invariant.4,
      t.auto.octets ∙ l.invariant.5,
      t.auto.lengths ∙ l.invariant.6,
      t.auto.firsts ∙ l.invariant.7,
      omega (arith, l.invariant.8, c.if-made.false),
      gone_on l.invariant.9 c.loop-state-test.true t.ensures,
    )

pub returns : goal.returns
unfolding roomy
returns c =
    looped c.args.receiver c.fresh-feed.ensures c.none-read.ensures c.loop-state.invariant.9 c.loop-state-test.false
