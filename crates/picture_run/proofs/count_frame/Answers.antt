-- `picture_run::count_frame` meets its contract.
use Rattle.picture_run.proofs.Turning.{none-counted, accepted-counted, one-counted}
use borrow.Enum.Refused.{opened}
use Rattle.picture_run.proofs.count_frame.Goals as goal

pub returns-in_default : goal.returns-in_default
returns-in_default c = none-counted c.args.frames.now c.args.pull (opened c.in_default.in_default-own.keys2)

pub returns-in_default-answer : goal.returns-in_default-answer
returns-in_default-answer c =
    accepted-counted c.args.frames.now c.in-Answered.is c.in_default-answer.is

pub returns : goal.returns
returns c =
    one-counted c.args.frames.now c.in-Answered.is c.in-Err.is c.count.ensures
