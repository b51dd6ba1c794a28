-- `audit_form::Reading::more` meets its contract.
use Rattle.audit_form.proofs.Forming.{grew}
use Rattle.audit_form.proofs.Reading.more.Goals as goal

pub returns : goal.returns
returns c =
    let read = c.refill-read.ensures in
    grew c.args.self read c.have-have.ensures c.hand.ensures c.read-form.ensures c.brought-going.ensures
