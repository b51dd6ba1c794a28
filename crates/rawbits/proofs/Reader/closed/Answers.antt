-- `Reader::closed` meets its contract.
use Rattle.std.proofs.Common.{ap}
use mathlib.Core.Bool.{not}
use borrow.Author.Rules.{rules}
use borrow.Author.Tests.{eq-eqb, ne_eqb}
use Rattle.rawbits.proofs.Steps.{closes_unseen, closes_abandoned, closes_odd, closes_empty, closes_frame}
use Rattle.rawbits.proofs.Reader.closed.Goals as goal

pub returns-then-not-self : goal.returns-then-not-self
returns-then-not-self c = closes_unseen _ _ c.if-not-self.true

pub returns-then-self : goal.returns-then-self
returns-then-self c = closes_abandoned _ _ c.if-not-self.false c.if-self.true

pub returns-then-self-ne0 : goal.returns-then-self-ne0
returns-then-self-ne0 c = closes_odd _ _ c.if-not-self.false c.if-self.false (ap not (ne_eqb _ _ c.if-self-ne0.true))

pub returns-then-self-eq0 : goal.returns-then-self-eq0
returns-then-self-eq0 c =
    closes_empty _ _ c.if-not-self.false c.if-self.false (ap not (eq-eqb _ _ c.if-self-ne0.false)) c.if-self-eq0.true

pub returns : goal.returns
returns c =
    closes_frame _ _ c.if-not-self.false c.if-self.false _ (ap not (eq-eqb _ _ c.if-self-ne0.false)) c.if-self-eq0.false
    (search rules)
