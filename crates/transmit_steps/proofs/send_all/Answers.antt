use Rattle.transmit_steps.proofs.Steps.{no_frames, all-sent}
use Rattle.transmit_steps.proofs.send_all.Goals as goal

pub returns-then-frames-first : goal.returns-then-frames-first
returns-then-frames-first c = no_frames _ _ _ _ _ _ c.if-frames-first.true c.stopped.ensures

pub returns : goal.returns
returns c = all-sent _ _ _ _ _ _ c.if-frames-first.false c.send.ensures
