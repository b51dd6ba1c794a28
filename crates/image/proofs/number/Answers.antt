-- The choice of the definition.
use Rattle.std.proofs.Common.{arith}
use borrow.Author.Tests.{eq-eqb, ne_eqb}
use Rattle.octets.proofs.Choices.{picked, passed}
use Rattle.image.specs.Line.{number}
use Rattle.image.proofs.number.Goals as goal

pub returns-then-held-eq0 : goal.returns-then-held-eq0
unfolding number
returns-then-held-eq0 c = picked _ _ _ (eq-eqb _ _ c.if-held-eq0.true)

pub returns : goal.returns
unfolding number
returns c = passed _ _ _ _ (ne_eqb _ _ c.if-held-eq0.false) (omega arith)
