-- `section::before_a_read` meets its contract.
use Rattle.readings_turn.proofs.Heeding.{enough-at-hand, text-written}
use borrow.Author.Rules.{rules}
use Rattle.readings_turn.proofs.section.before_a_read.Goals as goal

pub returns-then-hand-ge-SECTION : goal.returns-then-hand-ge-SECTION
returns-then-hand-ge-SECTION c = enough-at-hand c.if-hand-ge-SECTION.true

pub returns : goal.returns
returns c = text-written c.if-hand-ge-SECTION.false c.written.ensures
