use native.Mathlib.Omega.{arith}
use mathlib.Core.Path.{◌≡◌}
use borrow.Author.Tests.{not-true, not-false}
use Rattle.receiver.specs.Run.{roomy}
use Rattle.window.specs.Turns.{most}
use Rattle.readings_frame.specs.Readings.{layouts_of}
use Rattle.readings_turn.proofs.Loop.{no_turn, one_turn, looped, looped-all}
use Rattle.readings_turn.proofs.turns.Goals as goal

pub loop-made-init : goal.loop-made-init
loop-made-init c = no_turn _ _ _ _ _ _ _

pub returns-then-not-standing : goal.returns-then-not-standing
unfolding roomy
returns-then-not-standing c =
    let a = c.args in
    looped (layouts_of a.text.now a.apids.now a.sids.now a.starts.now a.n a.codes.now a.froms.now a.tos.now) a.fresh a.first
    c.begins-standing.ensures c.loop-made.invariant (not-true _ c.if-not-standing.true)

pub loop-made-preserved : goal.loop-made-preserved
loop-made-preserved c =
    one_turn _ _ _ _ _ _ _ c.loop-made.invariant (not-false _ c.if-not-standing.false) c.turn-standing.ensures

pub returns : goal.returns
unfolding roomy
returns c =
    let a = c.args in
    let all : c.loop-made.made ≡ most = omega arith in
    rw all at
    (looped-all (layouts_of a.text.now a.apids.now a.sids.now a.starts.now a.n a.codes.now a.froms.now a.tos.now) a.fresh a.first
    c.begins-standing.ensures c.loop-made.invariant all)
