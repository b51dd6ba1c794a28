-- `picture_run::ending::status` meets its contract.
use Rattle.picture_run.proofs.Whole.{status_broken, status_none, status_unwritten, status_bad, status_good}
use Rattle.picture_run.proofs.ending.status.Goals as goal

pub returns-then-broken : goal.returns-then-broken
returns-then-broken c =
    let a = c.args in
    status_broken a.stopped a.ended c.broken.ensures c.if-broken.true

pub returns-then-ended : goal.returns-then-ended
returns-then-ended c =
    let a = c.args in
    status_none a.stopped a.ended c.broken.ensures c.if-broken.false c.if-ended.true

pub returns-then-failed : goal.returns-then-failed
returns-then-failed c =
    let a = c.args in
    status_unwritten a.stopped a.ended c.broken.ensures c.if-broken.false c.if-ended.false c.failed.ensures
    c.if-failed.true

pub returns-then-state : goal.returns-then-state
returns-then-state c =
    let a = c.args in
    status_bad a.stopped a.ended c.broken.ensures c.if-broken.false c.if-ended.false c.failed.ensures
    c.if-failed.false c.if-state.true

pub returns : goal.returns
returns c =
    let a = c.args in
    status_good a.stopped a.ended c.broken.ensures c.if-broken.false c.if-ended.false c.failed.ensures
    c.if-failed.false c.if-state.false
