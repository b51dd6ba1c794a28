use Rattle.std.proofs.Common.{ℕ, List, [], ap, arith, rules}
use lib.Seq.{take_all}
use Rattle.decimal.specs.Text.{each}
use Rattle.decimal.proofs.Laid.{resaid, one-number-more, puts_none, puts_laid}
use Rattle.decimal.proofs.numbers.Goals as goal

pub returns-then-out-at : goal.returns-then-out-at
returns-then-out-at c = puts_none (omega arith)

pub returns-then-out-at-2 : goal.returns-then-out-at-2
returns-then-out-at-2 c = puts_none (omega arith)

pub loop-n-preserved : goal.loop-n-preserved
loop-n-preserved c =
    let l = c.loop-n in
    (search rules, one-number-more _ _ l.n-index (search rules) (omega arith) l.invariant.1 c.lay-next.ensures)

pub returns : goal.returns
returns c =
    let l = c.loop-n in
    let a = c.args in
    puts_laid (omega arith)
    (resaid (ap (λ (ns : List ℕ). each a.after ns []) (take_all l.n-index _ c.loop-n-test.false)) (omega arith) l.invariant.1)
