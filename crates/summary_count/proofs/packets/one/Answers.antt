-- `packets::one` meets its contract.
use mathlib.Core.Path.{ap, ◌∙◌}
use Rattle.summary_count.specs.Count.{of_number, ledger, handed_counted}
use Rattle.summary_count.proofs.Handing.{packet-read, packet-away}
use Rattle.summary_count.proofs.packets.one.Goals as goal

pub returns-in-Ok : goal.returns-in-Ok
unfolding handed_counted
returns-in-Ok c =
    packet-read c.args.packet.now
    (ledger c.args.counts.now c.args.keys.now c.args.many.now c.args.last.now)
    c.read.ensures c.in-Ok.is c.read-in-Ok.ensures

pub returns-in-Err : goal.returns-in-Err
unfolding handed_counted
returns-in-Err c =
    packet-away c.args.packet.now
    (ledger c.args.counts.now c.args.keys.now c.args.many.now c.args.last.now)
    c.read.ensures c.in-Err.is
    (c.refusal.ensures ∙ ap (of_number c.args.counts.now 7 66560) c.number.ensures)
