-- `digit` meets its contract.
use Rattle.std.proofs.Common.{arith}
use Rattle.std.proofs.lemmas.Grind.{common_steps}
use Rattle.octets.specs.Pick.{pick}
use Rattle.words.specs.Octets.{digit_of}
use Rattle.words.proofs.digit.Goals as goal

pub returns-then-contains : goal.returns-then-contains
unfolding digit_of pick
returns-then-contains c = grind (arith, common_steps)

pub returns-then-contains-2 : goal.returns-then-contains-2
unfolding digit_of pick
returns-then-contains-2 c = grind (arith, common_steps)

pub returns-then-contains-3 : goal.returns-then-contains-3
unfolding digit_of pick
returns-then-contains-3 c = grind (arith, common_steps)

pub returns : goal.returns
unfolding digit_of pick
returns c = grind (arith, common_steps)
