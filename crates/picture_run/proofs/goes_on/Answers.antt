-- `picture_run::goes_on` meets its contract.
use borrow.Enum.Refused.{opened}
use Rattle.picture_run.proofs.Turning.{more-comes, none-comes}
use Rattle.picture_run.proofs.goes_on.Goals as goal

pub returns-in-More : goal.returns-in-More
returns-in-More c = more-comes c.args.pull c.in-More.in-More-own.keys1

pub returns-in-Bad : goal.returns-in-Bad
returns-in-Bad c = none-comes c.args.pull (opened c.in-Bad.in-Bad-own.keys2)
