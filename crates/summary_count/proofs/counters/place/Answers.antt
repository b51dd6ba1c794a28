-- `summary_count::counters::place` meets its contract.
use Rattle.summary_count.proofs.Counting.{keys-end, many-end, place_here, place-on}
use native.Mathlib.Omega.{arith}
use borrow.Author.Rules.{rules}
use Rattle.summary_count.proofs.counters.place.Goals as goal

pub returns-then-many-i : goal.returns-then-many-i
returns-then-many-i c =
    let a = c.args in
    omega (arith, many-end a.key a.keys.now a.many.now c.loop-i.i (search rules) c.if-many-i.true)

pub returns-then-many-i-2 : goal.returns-then-many-i-2
returns-then-many-i-2 c =
    let a = c.args in
    omega (arith, place_here a.key a.keys.now a.many.now c.loop-i.i (search rules) (search rules) c.if-many-i-2.true)

pub loop-i-preserved : goal.loop-i-preserved
loop-i-preserved c =
    let a = c.args in
    omega (arith, place-on a.key a.keys.now a.many.now c.loop-i.i (search rules) (search rules) c.if-many-i-2.false)

pub returns : goal.returns
returns c =
    let a = c.args in
    omega (arith, keys-end a.key a.keys.now a.many.now c.loop-i.i c.loop-i-test.false)
