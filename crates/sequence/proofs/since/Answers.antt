-- Each return is its case of the definition.
use Rattle.std.proofs.Common.{ℕ, ap}
use borrow.Author.Tests.{eq-eqb, ne_eqb}
use Rattle.answer.specs.Told.{accept}
use Rattle.octets.proofs.Choices.{picked, passed}
use Rattle.sequence.specs.Sequence.{missing, since}
use Rattle.sequence.proofs.since.Goals as goal

pub returns-then-entry-eq0 : goal.returns-then-entry-eq0
unfolding since
returns-then-entry-eq0 c = picked _ _ _ (eq-eqb _ _ c.if-entry-eq0.true)

pub returns-then-count-last : goal.returns-then-count-last
unfolding since
returns-then-count-last c = passed _ _ _ _ (ne_eqb _ _ c.if-entry-eq0.false) (picked _ _ _ c.if-count-last.true)

pub returns : goal.returns
unfolding since
returns c =
    passed _ _ _ _ (ne_eqb _ _ c.if-entry-eq0.false)
    (passed _ _ _ _ c.if-count-last.false (ap (λ (n : ℕ). accept (missing n)) c.missing.ensures))
