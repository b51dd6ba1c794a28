use Rattle.std.proofs.Common.{rules}
use Rattle.words.proofs.Counting.{no_digits, another, too_large, one_more, all_read}
use Rattle.words.proofs.number.Goals as goal

pub returns-then-is_empty : goal.returns-then-is_empty
returns-then-is_empty c = no_digits _ (search rules)

pub returns-then-x : goal.returns-then-x
returns-then-x c =
    let l = c.loop-x in
    another _ (search rules) l.n l.x-index l.invariant (search rules) c.if-x.true

pub returns-then-n-gt99999 : goal.returns-then-n-gt99999
returns-then-n-gt99999 c =
    let l = c.loop-x in
    too_large _ (search rules) l.n l.x-index l.invariant (search rules) c.if-n-gt99999.true

pub loop-x-preserved : goal.loop-x-preserved
loop-x-preserved c =
    let l = c.loop-x in
    rw c.from.ensures (one_more _ (search rules) l.n l.x-index l.invariant (search rules) c.if-x.false c.if-n-gt99999.false)

pub returns : goal.returns
returns c =
    let l = c.loop-x in
    all_read _ (search rules) l.n l.x-index l.invariant c.loop-x-test.false
