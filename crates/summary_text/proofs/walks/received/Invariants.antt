-- `summary_text::walks::received` meets its contract. The loop has looked at the first i lines.
use Rattle.summary_text.proofs.Marks.{Marked}
use Rattle.summary_text.proofs.walks.received.Given as goal

abbrev pub invariant-loop-i : goal.invariant-loop-i
invariant-loop-i l = Marked 120 l.from l.counts l.i l.lines
