-- `audit_form::brought` meets its contract.
use Rattle.audit_form.proofs.Came.{brought-told}
use Rattle.audit_form.proofs.brought.Goals as goal

pub returns : goal.returns
returns c = brought-told _ c.came.ensures c.failed.ensures
