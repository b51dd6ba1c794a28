-- `picture_run::turns` meets its contract.
use mathlib.Core.Path.{refl, ◌∙◌}
use native.Mathlib.Omega.{arith}
use Rattle.window.proofs.Looping.{stopped, all_made}
use Rattle.picture_run.proofs.Whole.{not_gone, gone_on, begun}
use borrow.Author.Rules.{rules}
use Rattle.picture_run.proofs.turns.Goals as goal

pub loop-state-init : goal.loop-state-init
loop-state-init c = (search rules, refl, refl, refl, refl, refl, refl, refl, refl, omega arith, not_gone)

pub returns-then-made : goal.returns-then-made
returns-then-made c =
    let g = c.loop-state.invariant.10 in
    record {
      input = _;
      kept = _;
      lends = _;
      input' = _;
      kept' = _;
      lends' = _;
      octets = g.octets;
      loops = begun c.args.receiver c.start-state.ensures (all_made g.made c.if-made.true);
    }

pub overflow_add-made : goal.overflow_add-made
overflow_add-made c =
    omega (arith, c.loop-state.invariant.9, c.if-made.false)

pub loop-state-smaller : goal.loop-state-smaller
loop-state-smaller c =
    omega (arith, c.loop-state.invariant.9, c.if-made.false)

pub loop-state-preserved : goal.loop-state-preserved
loop-state-preserved c =
    let l = c.loop-state in (
      c.turn-state.auto.input ∙ l.invariant.0,
      c.turn-state.auto.pixels ∙ l.invariant.1,
      c.turn-state.auto.numbers ∙ l.invariant.2,
      c.turn-state.auto.frames ∙ l.invariant.3,
      c.turn-state.auto.packets ∙ l.invariant.4,
      c.turn-state.auto.images ∙ l.invariant.5,
      c.turn-state.auto.octets ∙ l.invariant.6,
      c.turn-state.auto.lengths ∙ l.invariant.7,
      c.turn-state.auto.firsts ∙ l.invariant.8,
      omega (arith, l.invariant.9, c.if-made.false),
      gone_on l.invariant.10 c.loop-state-test.true c.turn-state.ensures,
    )

pub returns : goal.returns
returns c =
    let g = c.loop-state.invariant.10 in
    record {
      input = _;
      kept = _;
      lends = _;
      input' = _;
      kept' = _;
      lends' = _;
      octets = g.octets;
      loops = begun c.args.receiver c.start-state.ensures (stopped g.made c.loop-state-test.false);
    }
