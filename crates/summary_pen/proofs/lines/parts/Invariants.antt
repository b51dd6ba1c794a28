-- `summary_pen::lines::parts` meets its contract. The loop has added up n so often.
use Rattle.summary_pen.proofs.Shares.{Added}
use Rattle.summary_pen.proofs.lines.parts.Given as goal

abbrev pub invariant-loop-turn : goal.invariant-loop-turn
invariant-loop-turn l = Added l.n l.all l.turn l.full l.over
