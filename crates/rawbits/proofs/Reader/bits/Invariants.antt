-- The loop has gone over the first bits, as many as counter.
use Rattle.rawbits.specs.Reader.{standing}
use Rattle.rawbits.proofs.Turning.{Turns}
use Rattle.rawbits.proofs.Reader.bits.Given as goal

abbrev pub invariant-loop : goal.invariant-loop
invariant-loop l = Turns (standing l.fn.self l.fn.kept) l.octet (standing l.reader l.kept) l.found l.rest l.counter
