-- `answered` meets its contract.
use Rattle.summary_count.specs.Count.{ledger}
use Rattle.summary_count.proofs.Handing.{frame-accepted, frame_refused}
use Rattle.summary_count.proofs.answered.Goals as goal

pub returns-in-Ok : goal.returns-in-Ok
returns-in-Ok c =
    frame-accepted c.args.octets.now c.args.lengths.now
    (ledger c.args.counts.now c.args.keys.now c.args.many.now c.args.last.now)
    c.in-Ok.is c.frame.ensures c.all.ensures

pub returns-in-Err : goal.returns-in-Err
returns-in-Err c =
    frame_refused c.args.octets.now c.args.lengths.now
    (ledger c.args.counts.now c.args.keys.now c.args.many.now c.args.last.now)
    c.in-Err.is c.refusal.ensures
