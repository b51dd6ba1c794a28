-- `showing::show` meets its contract.
use mathlib.Core.Path.{refl, ◌∙◌}
use native.Mathlib.Omega.{arith}
use Rattle.window.proofs.Looping.{at_first}
use Rattle.summary_run.proofs.Parts.{next-part, shown, shown-most}
use Rattle.summary_run.proofs.showing.show.Goals as goal

pub loop-page-init : goal.loop-page-init
loop-page-init c = (refl, omega arith, at_first)

pub returns-then-made : goal.returns-then-made
returns-then-made c =
    shown-most c.none-written.ensures c.loop-page.invariant.2 c.if-made.true

pub overflow_add-made : goal.overflow_add-made
overflow_add-made c =
    omega (arith, c.loop-page.invariant.1, c.if-made.false)

pub loop-page-smaller : goal.loop-page-smaller
loop-page-smaller c =
    omega (arith, c.loop-page.invariant.1, c.if-made.false)

pub loop-page-preserved : goal.loop-page-preserved
loop-page-preserved c = (
  c.part-page.auto.out ∙ c.loop-page.invariant.0,
  omega (arith, c.loop-page.invariant.1, c.if-made.false),
  next-part c.loop-page.invariant.0 c.loop-page.invariant.2 c.loop-page-test.true c.part-page.ensures,
)

pub returns : goal.returns
returns c =
    shown c.none-written.ensures c.loop-page.invariant.2 c.loop-page-test.false
