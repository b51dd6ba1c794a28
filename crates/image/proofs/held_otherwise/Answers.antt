use borrow.Author.Tests.{eq-eqb, ne_eqb}
use Rattle.image.specs.Line.{held_otherwise}
use Rattle.image.proofs.held_otherwise.Goals as goal

pub returns-then-lines-n-eq0 : goal.returns-then-lines-n-eq0
unfolding held_otherwise
returns-then-lines-n-eq0 c = simp (eq-eqb _ _ c.if-lines-n-eq0.true)

pub returns : goal.returns
unfolding held_otherwise
returns c = simp (ne_eqb _ _ c.if-lines-n-eq0.false, c.same.ensures, c.part.ensures)
