-- The octets that the bits held fill are written so far.
use Rattle.std.proofs.Common.{◌≡◌}
use Rattle.rawbits_writer.proofs.Writing.{Drains}
use Rattle.rawbits_writer.proofs.laying.Pen.drain.Given as goal

abbrev pub invariant-loop-self : goal.invariant-loop-self
invariant-loop-self l = record {
  drains : Drains l.initial.self l.self.held l.initial.out l.out l.self.at l.self.bits;
  held : l.initial.self.held ≡ l.self.held;
  ones : l.self.ones ≡ l.initial.self.ones;
}

abbrev pub decreases-loop-self : goal.decreases-loop-self
decreases-loop-self l = l.self.bits
