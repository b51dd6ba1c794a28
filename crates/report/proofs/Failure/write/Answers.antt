-- `report::Failure::write` meets its contract.
use mathlib.Core.Path.{refl}
use mathlib.Core.List.{[]}
use Rattle.report.proofs.Write.{reported, numbers-first, failure-wrong}
use Rattle.report.specs.declared.Content.TheVariants as content
use Rattle.report.proofs.Failure.write.Goals as goal

pub returns : goal.returns
returns c =
    let a = c.args in
    reported a.packet (content.Failure a.self) []
    (failure-wrong a.packet a.self (c.failure-wrong.ensures a.packet refl refl))
    (numbers-first _ [] c.word_octets-id.ensures c.word_octets-control.ensures c.word_octets-code.ensures)
    c.write.ensures
