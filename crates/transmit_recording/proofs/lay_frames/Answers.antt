use Rattle.std.proofs.Common.{refl, arith}
use Rattle.transmit_recording.proofs.Laying.{none-laid, one-room-left, one-laid, all_laid}
use Rattle.transmit_recording.proofs.lay_frames.Goals as goal

pub loop-n-init : goal.loop-n-init
loop-n-init c = none-laid _ _ _ c.requires

pub slice_bounds-lay_one-count : goal.slice_bounds-lay_one-count
slice_bounds-lay_one-count c = omega (arith, c.loop-n.invariant.inside)

pub slice_bounds-lay_one-start : goal.slice_bounds-lay_one-start
slice_bounds-lay_one-start c = omega (arith, c.loop-n.invariant.inside)

pub lay_one-to-requires : goal.lay_one-to-requires
lay_one-to-requires c = one-room-left _ _ _ c.loop-n.invariant c.loop-n-test.true

pub behind-at-requires : goal.behind-at-requires
behind-at-requires c = c.loop-n.invariant.inside

pub loop-n-preserved : goal.loop-n-preserved
loop-n-preserved c =
    one-laid _ _ _ c.loop-n.invariant c.loop-n-test.true refl c.lay_one-to.ensures c.behind-at.ensures c.lay_one-to.auto.out

pub returns : goal.returns
returns c = all_laid _ _ _ c.loop-n.invariant c.loop-n-test.false
