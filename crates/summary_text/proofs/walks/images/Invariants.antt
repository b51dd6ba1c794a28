-- `summary_text::walks::images` meets its contract. The loop has told the images at places below i.
use Rattle.summary_pen.specs.Page.{page}
use Rattle.summary_pen.specs.Choice.{form}
use Rattle.summary_pen.proofs.Saying.{Through}
use Rattle.summary_text.proofs.Texts.{image_at}
use Rattle.summary_text.proofs.walks.images.Given as goal

abbrev pub invariant-loop-i : goal.invariant-loop-i
invariant-loop-i l = Through 1024 (image_at (form l.csv) l.counts) l.i (page l.initial.out l.initial.pen) (page l.out l.pen)
