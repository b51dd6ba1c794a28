-- `summary_text::of_packets` meets its contract.
use Rattle.summary_pen.specs.Choice.{form}
use Rattle.summary_text.proofs.Whole.{packets-said}
use Rattle.summary_text.proofs.of_packets.Goals as goal

pub returns : goal.returns
returns c =
    let a = c.args in
    packets-said (form a.csv) a.counts.now a.keys.now a.many.now c.of-read.ensures
    c.of-away.ensures c.of-unlisted.ensures c.packets-packets.ensures c.listed-listed.ensures c.others-others.ensures c.away.ensures
