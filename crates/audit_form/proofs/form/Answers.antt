use native.Mathlib.Omega.{arith}
use mathlib.Core.Path.{◌≡◌, refl}
use borrow.Author.Tests.{not-true, not-false}
use Rattle.window.specs.Turns.{most}
use Rattle.window.proofs.Looping.{at_first, one_more, stopped, all_made}
use Rattle.audit_form.proofs.Forming.{at-start, begun}
use Rattle.audit_form.proofs.form.Goals as goal

pub loop-made-init : goal.loop-made-init
loop-made-init c = at_first

pub returns-then-not-reading : goal.returns-then-not-reading
returns-then-not-reading c =
    begun (at-start c.fresh.ensures c.none.ensures) (stopped c.loop-made.invariant (not-true _ c.if-not-reading.true))

pub loop-made-preserved : goal.loop-made-preserved
loop-made-preserved c =
    one_more c.loop-made.invariant (not-false _ c.if-not-reading.false) (record { grows = c.more-reading.ensures; silent = refl })

pub returns : goal.returns
returns c =
    let all : c.loop-made.made ≡ most = omega arith in
    begun (at-start c.fresh.ensures c.none.ensures) (rw all at (all_made c.loop-made.invariant all))
