use Rattle.transmit_steps.proofs.Making.{no_frame_lem, one-frame}
use Rattle.transmit_steps.proofs.frame.Goals as goal

pub returns-then-n-gt-LONGEST : goal.returns-then-n-gt-LONGEST
returns-then-n-gt-LONGEST c = no_frame_lem _ _ _ _ c.hex-n.ensures.0 c.hex-n.ensures.1 c.if-n-gt-LONGEST.true c.stopped.ensures

pub returns : goal.returns
returns c =
    one-frame _ _ _ _ c.hex-n.ensures.0 c.hex-n.ensures.1 c.if-n-gt-LONGEST.false c.more-next.ensures c.enter.ensures c.going.ensures
