use Rattle.std.proofs.Common.{rules}
use Rattle.transmit_steps.proofs.Making.{emptied_on, not_emptied}
use Rattle.transmit_steps.proofs.empty.Goals as goal

pub returns-in-Ok : goal.returns-in-Ok
returns-in-Ok c =
    emptied_on _ _ _ _ c.count.ensures c.part.ensures c.empty.ensures (search rules) c.sent.ensures c.going.ensures c.enter.ensures

pub returns-in-Err : goal.returns-in-Err
returns-in-Err c =
    not_emptied _ _ _ _ c.count.ensures c.part.ensures c.empty.ensures (search rules) c.number.ensures c.stopped.ensures
