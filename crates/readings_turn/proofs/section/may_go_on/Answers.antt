-- `section::may_go_on` meets its contract.
use Rattle.readings_turn.proofs.Heeding.{may_follow_lem, at-end}
use borrow.Author.Rules.{rules}
use Rattle.readings_turn.proofs.section.may_go_on.Goals as goal

pub returns-in-More : goal.returns-in-More
returns-in-More c =
    may_follow_lem c.args.pull c.failed.ensures c.if-failed.false c.in-More.in-More-own.keys1

pub returns-in_default : goal.returns-in_default
returns-in_default c = at-end c.args.pull c.failed.ensures c.if-failed.false c.in_default.not-More
    c.in_default.not-Opened c.in_default.not-Answered
