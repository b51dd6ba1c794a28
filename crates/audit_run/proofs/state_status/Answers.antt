-- `audit_run::state_status` meets its contract.
use mathlib.Core.Path.{refl, sym, ◌∙◌}
use borrow.Author.Tests.{not-true, not-false}
use Rattle.audit_run.specs.Told.{endless, unread, bad, lost, stands}
use Rattle.audit_run.proofs.Writing.{status_broken, status_of_lem}
use Rattle.audit_run.proofs.state_status.Goals as goal

pub returns-then-state : goal.returns-then-state
returns-then-state c = endless c.if-state.true refl

pub returns-then-failed : goal.returns-then-failed
returns-then-failed c =
    unread c.if-state.false (not-true _ c.if-not-state.true) (sym c.failed.ensures ∙ c.if-failed.true) refl

pub returns-then-not-state : goal.returns-then-not-state
returns-then-not-state c =
    bad c.if-state.false (not-true _ c.if-not-state.true) (sym c.failed.ensures ∙ c.if-failed.false) refl

pub returns-then-failed-2 : goal.returns-then-failed-2
returns-then-failed-2 c =
    lost c.if-state.false (not-false _ c.if-not-state.false) (sym c.failed-2.ensures ∙ c.if-failed-2.true) refl

pub returns-then-failed-3 : goal.returns-then-failed-3
returns-then-failed-3 c =
    let v = c.args.state.audit.verdict in
    stands c.if-state.false (not-false _ c.if-not-state.false) (sym c.failed-2.ensures ∙ c.if-failed-2.false)
    (status_broken v (sym c.failed-3.ensures ∙ c.if-failed-3.true))

pub returns-in-Passes : goal.returns-in-Passes
returns-in-Passes c =
    stands c.if-state.false (not-false _ c.if-not-state.false) (sym c.failed-2.ensures ∙ c.if-failed-2.false)
    (status_of_lem c.in-Passes.is (sym c.failed-3.ensures ∙ c.if-failed-3.false))

pub returns-in-Faulty : goal.returns-in-Faulty
returns-in-Faulty c =
    stands c.if-state.false (not-false _ c.if-not-state.false) (sym c.failed-2.ensures ∙ c.if-failed-2.false)
    (status_of_lem c.in-Faulty.is (sym c.failed-3.ensures ∙ c.if-failed-3.false))
