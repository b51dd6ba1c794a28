-- Each return passes the refusals before it.
use Rattle.octets.proofs.Choices.{answers}
use Rattle.octets.proofs.Tests.{tests}
use Rattle.frame.specs.Frame.{read_frame}
use Rattle.frame.proofs.Frame.read.Goals as goal

pub returns-then-time-gt-LONGEST_TIME : goal.returns-then-time-gt-LONGEST_TIME
unfolding read_frame
returns-then-time-gt-LONGEST_TIME c = search (answers, tests)

pub returns-then-length_wrong : goal.returns-then-length_wrong
unfolding read_frame
returns-then-length_wrong c = search (answers, tests) depth 9

pub returns-then-check_wrong : goal.returns-then-check_wrong
unfolding read_frame
returns-then-check_wrong c = search (answers, tests) depth 9

pub returns : goal.returns
unfolding read_frame
returns c = search (answers, tests) depth 9
