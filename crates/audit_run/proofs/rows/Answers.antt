use native.Mathlib.Omega.{arith}
use mathlib.Core.Path.{◌≡◌, refl}
use borrow.Author.Tests.{not-true, not-false}
use Rattle.window.specs.Turns.{most}
use Rattle.window.proofs.Looping.{at_first, one_more, stopped, all_made}
use Rattle.audit_run.proofs.Writing.{began}
use Rattle.audit_run.proofs.rows.Goals as goal

pub loop-made-init : goal.loop-made-init
loop-made-init c = at_first

pub returns-then-not-state : goal.returns-then-not-state
returns-then-not-state c = began c.fresh-state.ensures (stopped c.loop-made.invariant (not-true _ c.if-not-state.true))

pub loop-made-preserved : goal.loop-made-preserved
loop-made-preserved c =
    one_more c.loop-made.invariant (not-false _ c.if-not-state.false) (record { turned = c.turn-state.ensures; silent = refl })

pub returns : goal.returns
returns c =
    let all : c.loop-made.made ≡ most = omega arith in
    began c.fresh-state.ensures (rw all at (all_made c.loop-made.invariant all))
