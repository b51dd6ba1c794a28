-- The frames before index i have had their signs.
use Rattle.transmit_recording.proofs.Losing.{Signed}
use Rattle.transmit_recording.proofs.lose.Given as goal

abbrev pub invariant-loop-i : goal.invariant-loop-i
invariant-loop-i l = Signed l.link l.fn.frames l.from l.to l.frames l.i
