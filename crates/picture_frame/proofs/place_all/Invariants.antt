-- `picture_frame::place_all` meets its contract. The loop has placed the packets of the lengths up to one.
use Rattle.picture_frame.specs.Received.{received}
use Rattle.picture_frame.proofs.Packets.{Going}
use Rattle.picture_frame.proofs.place_all.Given as goal

abbrev pub invariant-loop-n : goal.invariant-loop-n
invariant-loop-n l =
    Going l.octets l.lengths l.accepted.packets l.accepted.arrival l.wanted
    (received l.initial.pixels l.initial.lines l.initial.refused l.initial.images) l.from l.n-index
    (received l.pixels l.lines l.refused l.images)
