-- `summary_text::walks::apids` meets its contract. The loop has told the APIDs below number i.
use Rattle.summary_pen.specs.Page.{page}
use Rattle.summary_pen.specs.Choice.{form}
use Rattle.summary_pen.proofs.Saying.{Through}
use Rattle.summary_text.proofs.Texts.{apid_at}
use Rattle.summary_text.proofs.walks.apids.Given as goal

abbrev pub invariant-loop-i : goal.invariant-loop-i
invariant-loop-i l = Through 2048 (apid_at (form l.csv) l.counts) l.i (page l.initial.out l.initial.pen) (page l.out l.pen)
