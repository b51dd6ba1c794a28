-- `report::Available::write` meets its contract.
use Rattle.std.proofs.Common.{refl, [], ◌∷◌}
use Rattle.report.proofs.Write.{reported, numbers-first, available-wrong}
use Rattle.report.specs.declared.Content.TheVariants as content
use Rattle.report.proofs.Available.write.Goals as goal

pub returns : goal.returns
returns c =
    let a = c.args in
    reported a.packet (content.Available a.self) (a.first.now ∷ a.second.now ∷ [])
    (available-wrong a.packet a.self a.first.now a.second.now (c.available.ensures a.packet refl refl))
    (numbers-first a.first.now a.second.now c.word_octets-image.ensures c.four_octets-ticks.ensures refl)
    c.write.ensures
