-- `section::is_bad` meets its contract.
use Rattle.readings_turn.proofs.Heeding.{bad-is, bad_not}
use Rattle.readings_turn.proofs.section.is_bad.Goals as goal

pub returns-in-Bad : goal.returns-in-Bad
returns-in-Bad c = bad-is c.args.pull c.in-Bad.in-Bad-own.keys1

pub returns-in_default : goal.returns-in_default
returns-in_default c = bad_not c.args.pull c.in_default.not-Bad c.in_default.not-Cut
