-- None of the packets so far is turned away.
use Rattle.sender.proofs.Refusals.{Seen}
use Rattle.sender.proofs.refusing.packets_wrong.Given as goal

abbrev pub invariant-loop-length : goal.invariant-loop-length
invariant-loop-length l = Seen l.packets l.lengths l.at l.length-index
