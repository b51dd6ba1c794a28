-- The loop has gone over the first i octets.
use Rattle.kiss.specs.Reader.{standing}
use Rattle.kiss.proofs.Scanning.{Going}
use Rattle.kiss.specs.Reader.{reader}
use Rattle.kiss.proofs.Reader.scan.Given as goal

abbrev pub invariant-loop-i : goal.invariant-loop-i
invariant-loop-i l =
    Going (standing l.fn.self l.fn.kept) l.window (standing (reader l.marked l.escaping l.wrong l.other l.count) l.kept) l.i
