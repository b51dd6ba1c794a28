-- `Stopped::status` meets its contract.
use Rattle.readings_turn.proofs.Loop.{status_broken, status_against, status_done}
use borrow.Author.Rules.{rules}
use Rattle.readings_turn.proofs.Stopped.status.Goals as goal

pub returns-then-failed-unfinished : goal.returns-then-failed-unfinished
returns-then-failed-unfinished c =
    let s = c.args.self.standing in
    status_broken s c.failed-2.ensures c.failed.ensures c.if-failed-unfinished.true

pub returns-then-self : goal.returns-then-self
returns-then-self c =
    let s = c.args.self.standing in
    status_against s c.failed-2.ensures c.failed.ensures c.if-failed-unfinished.false
    c.if-self.true

pub returns : goal.returns
returns c =
    let s = c.args.self.standing in
    status_done s c.failed-2.ensures c.failed.ensures c.if-failed-unfinished.false
    c.if-self.false
