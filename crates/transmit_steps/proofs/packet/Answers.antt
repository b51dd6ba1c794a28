use Rattle.transmit_steps.proofs.Steps.{no_room, no_place, no_value, one_more}
use Rattle.transmit_steps.proofs.packet.Goals as goal

pub returns-then-packets-at : goal.returns-then-packets-at
returns-then-packets-at c = no_room _ _ _ _ c.if-packets-at.true c.stopped.ensures

pub returns-then-lengths-k : goal.returns-then-lengths-k
returns-then-lengths-k c = no_place _ _ _ _ c.if-packets-at.false c.if-lengths-k.true c.stopped-then-lengths-k.ensures

pub returns-then-n-gt65535 : goal.returns-then-n-gt65535
returns-then-n-gt65535 c =
    no_value _ _ _ _ c.if-packets-at.false c.if-lengths-k.false c.hex-n.ensures.0 c.hex-n.ensures.1 c.if-n-gt65535.true
    c.stopped-then-n-gt65535.ensures

pub returns : goal.returns
returns c =
    one_more _ _ _ _ c.if-packets-at.false c.if-lengths-k.false c.hex-n.ensures.0 c.hex-n.ensures.1 c.if-n-gt65535.false
    c.more-next.ensures c.enter.ensures c.going.ensures
