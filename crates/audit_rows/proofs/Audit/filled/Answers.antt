use Prim.Native.Nat.{◌<◌}
use mathlib.Core.Path.{sym, ap, ◌∙◌}
use lib.ListN.{length}
use native.Mathlib.Omega.{arith}
use Rattle.audit_rows.specs.Goes.{hand_of}
use Rattle.audit_rows.proofs.Reading.{none_filled, more-filled, dry-filled, full-filled, here_by, more-here}
use Rattle.audit_rows.proofs.Audit.filled.Goals as goal

pub loop-here-init : goal.loop-here-init
loop-here-init c = (ap length c.hand-here.ensures, none_filled _ _)

pub returns-then-not-brought : goal.returns-then-not-brought
returns-then-not-brought c =
    let l = c.loop-here in
    let short : length (hand_of l.audit l.rows) < 17 = omega (arith, l.invariant.0, c.loop-here-test.true) in
    let none = sym c.brought.ensures ∙ c.if-not-brought.true in
    dry-filled l.invariant.1 c.refill-read.ensures short c.have-here.ensures none

pub loop-here-smaller : goal.loop-here-smaller
loop-here-smaller c =
    let l = c.loop-here in
    let some = sym c.brought.ensures ∙ c.if-not-brought.false in
    omega (arith, more-here c.refill-read.ensures l.invariant.0 some, c.loop-here-test.true, c.have-here.ensures)

pub loop-here-preserved : goal.loop-here-preserved
loop-here-preserved c =
    let l = c.loop-here in
    let read = c.refill-read in
    let short : length (hand_of l.audit l.rows) < 17 = omega (arith, l.invariant.0, c.loop-here-test.true) in
    let same = c.have-here.ensures in
    let some = sym c.brought.ensures ∙ c.if-not-brought.false in
    (here_by read.ensures same, more-filled l.invariant.1 read.ensures short same some)

pub returns : goal.returns
returns c = full-filled c.loop-here.invariant.1 (omega (arith, c.loop-here.invariant.0, c.loop-here-test.false))
