use Rattle.std.proofs.Common.{arith, refl, sym, ◌∙◌}
use Rattle.octets.proofs.Placing.{put-fits}
use Rattle.image.specs.Line.{start}
use Rattle.image.proofs.lay.Goals as goal

pub returns : goal.returns
returns c =
    let a = c.args in
    let e = c.put.ensures ∙ sym (put-fits a.image.now (start a.n) a.pixels.now (omega arith)) in
    rw (e, c.number.ensures) refl
