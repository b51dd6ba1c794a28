-- `audit_rows::Audit::fresh` meets its contract.
use Rattle.audit_rows.proofs.Reading.{freshly}
use Rattle.audit_rows.proofs.Audit.fresh.Goals as goal

pub returns : goal.returns
returns c = freshly _ c.none.ensures
