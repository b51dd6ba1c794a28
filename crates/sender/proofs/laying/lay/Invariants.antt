-- The first k frames are made.
use Rattle.sender.specs.Send.{lent}
use Rattle.sender.proofs.Loop.{SoFar}
use Rattle.sender.proofs.laying.lay.Given as goal

abbrev pub invariant-loop-k : goal.invariant-loop-k
invariant-loop-k l =
    SoFar (record {
      common = l.common;
      master = l.initial.all;
      count = l.initial.own;
      time = l.time;
      octets = l.packets;
      lengths = l.lengths;
      size = l.size;
    })
    (lent l.initial.out l.initial.frames) (lent l.out l.frames) l.full l.next.packet l.next.start l.all l.own l.at l.end l.k
