-- `picture_run::turn` meets its contract.
use Rattle.picture_run.specs.Gathered.{gathered}
use Rattle.picture_run.proofs.Turning.{turned}
use Rattle.picture_run.proofs.turn.Goals as goal

pub returns : goal.returns
returns c =
    let a = c.args in
    let g = gathered a.pixels.now a.numbers.now a.packets.now a.images.now a.frames.now in
    turned a.wanted a.state a.input.now a.kept.now g c.pull-pulled.result c.requires c.pull-pulled.ensures
    c.goes_on-going.ensures c.found_bad-bad.ensures c.place_packets.ensures c.count_frame.ensures
