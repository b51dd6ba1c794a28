-- `report::Success::write` meets its contract.
use mathlib.Core.Path.{refl}
use mathlib.Core.List.{[]}
use Rattle.report.proofs.Write.{reported, numbers-first, success-wrong}
use Rattle.report.specs.declared.Content.TheVariants as content
use Rattle.report.proofs.Success.write.Goals as goal

pub returns : goal.returns
returns c =
    let a = c.args in
    reported a.packet (content.Success a.self) []
    (success-wrong a.packet a.self (c.success-wrong.ensures a.packet refl refl))
    (numbers-first [] [] c.word_octets-id.ensures c.word_octets-control.ensures refl)
    c.write.ensures
