-- The loop has gone over the first i octets.
use Rattle.rawbits.specs.Reader.{standing}
use Rattle.rawbits.specs.Eight.{Eights}
use Rattle.rawbits.proofs.Scanning.{Scans}
use Rattle.rawbits.proofs.Reader.scan.Given as goal

abbrev pub invariant-loop-i : goal.invariant-loop-i
invariant-loop-i l = Eights l.eights × Scans (standing l.fn.self l.fn.kept) l.window (standing l.reader l.kept) l.i
