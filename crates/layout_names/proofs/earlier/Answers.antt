-- `layout_names::earlier` meets its contract.
use Rattle.std.proofs.Common.{◌-◌, rules, tests, refl, ◌∙◌}
use Rattle.std.proofs.lemmas.Iterator.{YieldsList-from_range}
use Rattle.std.proofs.lemmas.Iterator.Search.{any_from_yields_List}
use Rattle.layout_names.specs.Names.{names_of, same_name, earlier}
use Rattle.layout_names.proofs.Repeats.{any-is}
use Rattle.layout_names.proofs.earlier.Goals as goal

pub returns : goal.returns
unfolding earlier
returns c =
    let a = c.args in
    any_from_yields_List (λ j. same_name (names_of a.text.now a.froms.now a.tos.now) j a.k) _ _ _ c.any.ensures.ran
    (YieldsList-from_range a.from a.k (a.k - a.from) refl refl) (λ x b q k. search (rules, tests))
    ∙ any-is _ (a.k - a.from) a.from
