use Rattle.transmit_recording.proofs.Losing.{begun, one_more, all-signed}
use Rattle.transmit_recording.proofs.lose.Goals as goal

pub loop-i-init : goal.loop-i-init
loop-i-init c = begun _ _ _ _

pub loop-i-preserved : goal.loop-i-preserved
loop-i-preserved c = one_more _ _ _ _ _ c.loop-i.i c.loop-i.invariant c.loop-i-test.true c.lost.ensures c.mark.ensures

pub returns : goal.returns
returns c = all-signed _ _ _ _ _ c.loop-i.i c.loop-i.invariant c.loop-i-test.false
