-- Each return is its case of the definition.
use Rattle.std.proofs.Common.{refl}
use borrow.Author.Tests.{le-ltb}
use Rattle.octets.proofs.Choices.{answers, passed}
use Rattle.octets.proofs.Tests.{tests}
use Rattle.sequence.specs.Sequence.{outcome}
use Rattle.sequence.proofs.missing.Goals as goal

pub returns-then-list-lt-LIST : goal.returns-then-list-lt-LIST
unfolding outcome
returns-then-list-lt-LIST c = search (answers, tests)

pub returns-then-apid-count : goal.returns-then-apid-count
unfolding outcome
returns-then-apid-count c = search (answers, tests)

pub returns-then-entry-gt16384 : goal.returns-then-entry-gt16384
unfolding outcome
returns-then-entry-gt16384 c = search (answers, tests)

pub returns : goal.returns
unfolding outcome
returns c =
    passed _ _ _ _ (le-ltb _ _ c.if-list-lt-LIST.false)
    (passed _ _ _ _ c.if-apid-count.false
    (passed _ _ _ _ (le-ltb _ _ c.if-entry-gt16384.false) (rw c.since.ensures refl)))
