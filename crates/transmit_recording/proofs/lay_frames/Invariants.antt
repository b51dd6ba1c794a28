use Rattle.transmit_recording.proofs.Laying.{Laid}
use Rattle.transmit_recording.proofs.lay_frames.Given as goal

abbrev pub invariant-loop-n : goal.invariant-loop-n
invariant-loop-n l = Laid l.made l.frames l.fn.out l.to l.at l.n-index l.out
