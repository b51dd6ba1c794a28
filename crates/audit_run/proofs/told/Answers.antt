-- `audit_run::told` meets its contract.
use mathlib.Core.Path.{ap}
use mathlib.Core.Bool.{not}
use Rattle.audit_run.proofs.Writing.{tells_none, tells-line}
use Rattle.audit_run.proofs.told.Goals as goal

pub returns-then-not-stands : goal.returns-then-not-stands
returns-then-not-stands c =
    tells_none c.args.state c.stands.ensures (ap not c.if-not-stands.true) c.none.ensures

pub returns : goal.returns
returns c =
    tells-line c.args.state c.stands.ensures (ap not c.if-not-stands.false) c.say.ensures
