-- `report::Housekeeping::write` meets its contract.
use mathlib.Core.Path.{refl}
use mathlib.Core.List.{[], ◌∷◌}
use Rattle.report.proofs.Write.{reported, housekeeping-wrong}
use Rattle.report.specs.declared.Content.TheVariants as content
use Rattle.report.proofs.Housekeeping.write.Goals as goal

pub returns : goal.returns
returns c =
    let a = c.args in
    reported a.packet (content.Housekeeping a.self) (a.rest.now ∷ [])
    (housekeeping-wrong a.packet a.self a.rest.now (c.housekeeping.ensures a.packet refl refl))
    refl
    c.write.ensures
