-- `summary_text::all` meets its contract.
use Rattle.summary_pen.specs.Choice.{form}
use Rattle.summary_text.proofs.Whole.{whole-said}
use Rattle.summary_text.proofs.all.Goals as goal

pub returns : goal.returns
returns c =
    let a = c.args in
    whole-said (form a.csv) a.counts.now a.keys.now a.many.now c.begin-begun.ensures c.of_frames-frames.ensures
    c.of_packets-packets.ensures c.of_others.ensures
