-- `report::Line::write` meets its contract.
use mathlib.Core.Path.{refl}
use mathlib.Core.List.{[], ◌∷◌}
use Rattle.report.proofs.Write.{reported, numbers-first, line-wrong}
use Rattle.report.specs.declared.Content.TheVariants as content
use Rattle.report.proofs.Line.write.Goals as goal

pub returns : goal.returns
returns c =
    let a = c.args in
    reported a.packet (content.Line a.self) (a.pixels.now ∷ [])
    (line-wrong a.packet a.self a.pixels.now (c.image_line.ensures a.packet refl refl))
    (numbers-first {b = a.self.line ∷ []} a.pixels.now [] c.word_octets-image.ensures refl refl)
    c.write.ensures
