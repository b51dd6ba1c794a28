-- `summary_text::of_others` meets its contract.
use Rattle.summary_pen.specs.Choice.{form}
use Rattle.summary_text.proofs.Whole.{others-said}
use Rattle.summary_text.proofs.of_others.Goals as goal

pub returns : goal.returns
returns c =
    let a = c.args in
    others-said (form a.csv) a.counts.now c.of-unplaced.ensures c.of-bad.ensures c.apids-apids.ensures c.images-images.ensures
    c.other_lines-lines.ensures c.bad.ensures
