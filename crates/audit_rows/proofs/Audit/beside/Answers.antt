use Rattle.audit_rows.proofs.Reading.{no_turn, one_turn, all-turns, fewer_turns}
use Rattle.audit_rows.proofs.Audit.beside.Goals as goal

pub loop-done-init : goal.loop-done-init
loop-done-init c = no_turn _ _ _

pub turn-turned-requires : goal.turn-turned-requires
turn-turned-requires c = c.loop-done.invariant.going_on c.loop-done-test.true

pub loop-done-smaller : goal.loop-done-smaller
loop-done-smaller c =
    fewer_turns c.loop-done-test.true c.turn-turned.ensures

pub loop-done-preserved : goal.loop-done-preserved
loop-done-preserved c = one_turn _ _ _ c.loop-done.invariant c.loop-done-test.true c.turn-turned.ensures

pub returns : goal.returns
returns c = all-turns _ _ _ c.loop-done.invariant c.loop-done-test.false
