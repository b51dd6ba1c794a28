-- `greymap::draw_line` meets its contract.
use borrow.Author.Tests.{eq-eqb, ne_eqb}
use Rattle.octets.specs.Pick.{pick}
use Rattle.greymap.specs.Picture.{blank, line_shown}
use Rattle.greymap.proofs.draw_line.Goals as goal

pub returns-then-number-eq0 : goal.returns-then-number-eq0
unfolding line_shown blank pick
returns-then-number-eq0 c = simp (eq-eqb _ _ c.if-number-eq0.true) c.put.ensures

pub returns : goal.returns
unfolding line_shown pick
returns c = simp (ne_eqb _ _ c.if-number-eq0.false) c.put-2.ensures
