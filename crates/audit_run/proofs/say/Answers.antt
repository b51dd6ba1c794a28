-- `audit_run::say` meets its contract.
use Rattle.audit_run.proofs.Writing.{says}
use Rattle.audit_run.proofs.say.Goals as goal

pub returns : goal.returns
returns c =
    says c.args.verdict c.write.result c.requires c.line-n.ensures c.write.ensures
