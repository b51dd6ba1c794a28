use Rattle.std.proofs.Common.{refl, [], ◌∷◌, arith}
use Rattle.listing_lines.specs.Text.{accepted_line}
use Rattle.decimal.proofs.Laid.{resaid}
use Rattle.listing_lines.proofs.Lines.{losses_then}
use Rattle.listing_lines.proofs.accepted.Goals as goal

pub returns : goal.returns
unfolding accepted_line
returns c =
    let a = c.args.a in
    resaid refl (omega arith)
    (losses_then (c.args.arrival ∷ 0 ∷ a.channel ∷ []) a.lost a.master a.packets
    c.numbers-next.ensures c.loss-after.ensures c.loss-last.ensures c.number.ensures (omega (arith, c.requires))
    c.numbers-next.auto.out c.loss-after.auto.out c.loss-last.auto.out)
