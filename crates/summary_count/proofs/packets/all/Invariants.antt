-- `packets::all` meets its contract. The loop has counted the packets of the lengths up to one.
use Rattle.summary_count.specs.Count.{ledger}
use Rattle.summary_count.proofs.Handing.{Going}
use Rattle.summary_count.proofs.packets.all.Given as goal

abbrev pub invariant-loop-n : goal.invariant-loop-n
invariant-loop-n l =
    Going l.octets l.lengths l.packets (ledger l.initial.counts l.initial.keys l.initial.many l.initial.last) l.from l.n-index
    (ledger l.counts l.keys l.many l.last)
