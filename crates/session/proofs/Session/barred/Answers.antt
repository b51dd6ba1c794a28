-- `Session::barred` answers the first of refusals 1, 4 and 3 that holds.
use Rattle.std.proofs.Common.{sym}
use borrow.Author.Tests.{eq-eqb, ne_eqb}
use Rattle.octets.specs.Pick.{pick}
use Rattle.session.specs.Step.{barred}
use Rattle.session.proofs.Session.barred.Goals as goal

pub returns-then-scant : goal.returns-then-scant
unfolding barred pick
returns-then-scant c = simp (c.of.ensures, sym c.scant.ensures, c.if-scant.true)

pub returns-then-unsound : goal.returns-then-unsound
unfolding barred pick
returns-then-unsound c =
    simp (c.of-then-unsound.ensures, sym c.scant.ensures, c.if-scant.false, sym c.unsound.ensures, c.if-unsound.true)

pub returns-then-self : goal.returns-then-self
unfolding barred pick
returns-then-self c =
    simp (
      c.of-then-self.ensures,
      sym c.scant.ensures,
      c.if-scant.false,
      sym c.unsound.ensures,
      c.if-unsound.false,
      eq-eqb _ _ c.if-self.true,
    )

pub returns : goal.returns
unfolding barred pick
returns c =
    simp (sym c.scant.ensures, c.if-scant.false, sym c.unsound.ensures, c.if-unsound.false, ne_eqb _ _ c.if-self.false)
