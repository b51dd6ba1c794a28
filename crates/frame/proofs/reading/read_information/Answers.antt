-- Each return passes the refusals before it.
use Rattle.octets.proofs.Choices.{answers}
use Rattle.frame.specs.Frame.{read_information}
use Rattle.frame.proofs.Reader.{accepting}
use Rattle.frame.proofs.reading.read_information.Goals as goal

pub returns-then-version_wrong : goal.returns-then-version_wrong
unfolding read_information
returns-then-version_wrong c = search answers depth 9

pub returns-then-status_wrong : goal.returns-then-status_wrong
unfolding read_information
returns-then-status_wrong c = search answers depth 9

pub returns-then-pointer_wrong : goal.returns-then-pointer_wrong
unfolding read_information
returns-then-pointer_wrong c = search answers depth 9

pub returns : goal.returns
returns c = search (accepting, answers) depth 9
