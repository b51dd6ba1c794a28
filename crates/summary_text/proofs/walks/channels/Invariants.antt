-- `summary_text::walks::channels` meets its contract. The loop has told the channels below number i.
use Rattle.summary_pen.specs.Page.{page}
use Rattle.summary_pen.specs.Choice.{form}
use Rattle.summary_pen.proofs.Saying.{Through}
use Rattle.summary_text.proofs.Texts.{channel_at}
use Rattle.summary_text.proofs.walks.channels.Given as goal

abbrev pub invariant-loop-i : goal.invariant-loop-i
invariant-loop-i l = Through 256 (channel_at (form l.csv) l.counts) l.i (page l.initial.out l.initial.pen) (page l.out l.pen)
