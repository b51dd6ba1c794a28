-- `summary_text::of_frames` meets its contract.
use Rattle.summary_pen.specs.Choice.{form}
use Rattle.summary_text.proofs.Whole.{frames-said}
use Rattle.summary_text.proofs.of_frames.Goals as goal

pub returns : goal.returns
returns c =
    let a = c.args in
    frames-said (form a.csv) a.counts.now c.of-accepted.ensures c.of-refused.ensures
    c.of-lost.ensures c.of-unknown.ensures c.frames-frames.ensures c.refused-refusals.ensures c.channels-channels.ensures c.over_all.ensures
