-- `packets::read` meets its contract.
use Rattle.summary_count.specs.Count.{ledger}
use Rattle.summary_count.proofs.Handing.{its_line, no_line}
use Rattle.summary_count.proofs.packets.read.Goals as goal

pub returns-then-p : goal.returns-then-p
returns-then-p c =
    its_line c.args.p c.args.packet.now
    (ledger c.args.counts.now c.args.keys.now c.args.many.now c.args.last.now)
    c.key-key.ensures c.packet.ensures c.gap.ensures c.if-p.true c.line.ensures

pub returns-else-p : goal.returns-else-p
returns-else-p c =
    no_line c.args.p c.args.packet.now
    (ledger c.args.counts.now c.args.keys.now c.args.many.now c.args.last.now)
    c.key-key.ensures c.packet.ensures c.gap.ensures c.if-p.false
