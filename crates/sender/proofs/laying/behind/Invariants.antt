-- The packets before this one start before `at`.
use Rattle.std.proofs.Common.{◌-◌, length}
use Rattle.sender.specs.Asked.{Begun}
use Rattle.sender.proofs.laying.behind.Given as goal

abbrev pub invariant-loop-next : goal.invariant-loop-next
invariant-loop-next l = Begun l.lengths l.at l.next.packet l.next.start

abbrev pub decreases-loop-next : goal.decreases-loop-next
decreases-loop-next l = length l.lengths - l.next.packet
