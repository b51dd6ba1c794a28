-- `audit_run::first_status` meets its contract.
use Rattle.audit_run.proofs.Writing.{first-broken, first_good, first-bad}
use Rattle.audit_run.proofs.first_status.Goals as goal

pub returns-then-formed-failed : goal.returns-then-formed-failed
returns-then-formed-failed c =
    let a = c.args in
    first-broken a.formed a.check c.failed.ensures c.if-formed-failed.true

pub returns-then-check : goal.returns-then-check
returns-then-check c =
    let a = c.args in
    first_good a.formed a.check c.failed.ensures c.if-formed-failed.false c.if-check.true

pub returns : goal.returns
returns c =
    let a = c.args in
    first-bad a.formed a.check c.failed.ensures c.if-formed-failed.false c.if-check.false
