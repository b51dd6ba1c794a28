-- So many bits the octets so far are, and so many 1s stand behind them.
use Rattle.rawbits_writer.proofs.Counting.{Measures}
use Rattle.rawbits_writer.proofs.laying.measured.Given as goal

abbrev pub invariant-loop-octet : goal.invariant-loop-octet
invariant-loop-octet l = Measures l.frame l.count l.ones l.octet-index
