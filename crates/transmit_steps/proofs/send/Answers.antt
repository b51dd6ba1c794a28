use Rattle.std.proofs.Common.{rules}
use Rattle.transmit_steps.proofs.Steps.{sent-on, refused-on}
use Rattle.transmit_steps.proofs.send.Goals as goal

pub returns-in-Ok : goal.returns-in-Ok
returns-in-Ok c =
    sent-on _ _ _ _ _ _ c.count.ensures c.part.ensures c.part-2.ensures c.front.ensures c.send.result c.send.ensures (search rules)
    c.sent-next.ensures c.going.ensures

pub returns-in-Err : goal.returns-in-Err
returns-in-Err c =
    refused-on _ _ _ _ _ _ c.count.ensures c.part.ensures c.part-2.ensures c.front.ensures c.send.result c.send.ensures (search rules)
    c.number.ensures c.stopped.ensures
