-- `audit_run::stands` meets its contract.
use Rattle.audit_run.proofs.Writing.{standing-told}
use Rattle.audit_run.proofs.stands.Goals as goal

pub returns : goal.returns
returns c = standing-told c.args.state c.failed.ensures
