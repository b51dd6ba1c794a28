-- `summary_text::walks::refusals` meets its contract. The loop has told the refusals below number i.
use Rattle.summary_pen.specs.Page.{page}
use Rattle.summary_pen.specs.Words.{pair}
use Rattle.summary_pen.proofs.Saying.{Through}
use Rattle.summary_text.proofs.Texts.{refusal_at}
use Rattle.summary_text.proofs.walks.refusals.Given as goal

abbrev pub invariant-loop-i : goal.invariant-loop-i
invariant-loop-i l = Through 65536 (refusal_at l.from (pair l.words l.others) l.counts) l.i (page l.initial.out l.initial.pen) (page l.out l.pen)
