use Rattle.std.proofs.Common.{rules}
use Rattle.decimal.proofs.Reading.{one_more, too_large, number-wrong, number_read, text-ended}
use Rattle.decimal.proofs.read.Goals as goal

pub returns-then-digits-text : goal.returns-then-digits-text
returns-then-digits-text c =
    let l = c.loop-end in
    number-wrong _ _ l.n l.end l.invariant (search rules) c.if-c.true _ c.if-digits-text.true

pub returns-then-c : goal.returns-then-c
returns-then-c c =
    let l = c.loop-end in
    number_read _ _ l.n l.end l.invariant (search rules) c.if-c.true _ c.if-digits-text.false

pub returns-then-n-gt-LARGEST : goal.returns-then-n-gt-LARGEST
returns-then-n-gt-LARGEST c =
    let l = c.loop-end in
    too_large _ _ l.n l.end l.invariant (search rules) _ c.if-c.false (rw (← c.from.ensures) c.if-n-gt-LARGEST.true)

pub loop-end-preserved : goal.loop-end-preserved
loop-end-preserved c =
    let l = c.loop-end in
    rw c.from.ensures (one_more _ _ l.n l.end l.invariant (search rules) c.if-c.false (rw (← c.from.ensures) c.if-n-gt-LARGEST.false))

pub returns : goal.returns
returns c = text-ended _ _ _ _ _ c.loop-end.invariant c.loop-end-test.false
