-- `summary_pen::pen::octet` meets its contract.
use borrow.Author.Rules.{rules}
use Rattle.summary_pen.proofs.Saying.{skipped, written, left_out}
use Rattle.summary_pen.proofs.pen.octet.Goals as goal

pub returns-then-pen-gt0 : goal.returns-then-pen-gt0
returns-then-pen-gt0 c = let a = c.args in skipped a.c a.out.now a.pen (search rules)

pub returns-then-at-out : goal.returns-then-at-out
returns-then-at-out c = let a = c.args in written a.c a.out.now a.pen (search rules) (search rules)

pub returns : goal.returns
returns c = let a = c.args in left_out a.c a.out.now a.pen (search rules) (search rules)
