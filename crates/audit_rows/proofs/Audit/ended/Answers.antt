-- `audit_rows::Audit::ended` meets its contract.
use Rattle.audit_rows.proofs.Reading.{ends-over, ends-told}
use Rattle.audit_rows.proofs.Audit.ended.Goals as goal

pub returns-then-self : goal.returns-then-self
returns-then-self c = ends-over _ _ c.if-self.true

pub returns : goal.returns
returns c =
    ends-told _ _ c.if-self.false c.filled-audit.ensures c.hand.ensures c.end-verdict.ensures c.stopped.ensures
