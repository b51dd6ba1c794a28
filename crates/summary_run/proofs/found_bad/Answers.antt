-- `found_bad` meets its contract.
use borrow.Enum.Refused.{opened}
use Rattle.summary_run.proofs.Turning.{is-bad, not_bad}
use Rattle.summary_run.proofs.found_bad.Goals as goal

pub returns-in-Bad : goal.returns-in-Bad
returns-in-Bad c =
    is-bad c.args.pull c.in-Bad.in-Bad-own.keys1

pub returns-in-More : goal.returns-in-More
returns-in-More c =
    not_bad c.args.pull (opened c.in-More.in-More-own.keys2)
