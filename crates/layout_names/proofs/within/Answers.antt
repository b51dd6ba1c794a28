-- `layout_names::within` meets its contract.
use Rattle.std.proofs.Common.{◌-◌, rules, tests, refl, sym, ◌∙◌}
use Rattle.std.proofs.lemmas.Iterator.{YieldsList-from_range}
use Rattle.std.proofs.lemmas.Iterator.Adapters.{option_map_id}
use Rattle.std.proofs.lemmas.Iterator.Search.{find_from_yields_List}
use Rattle.layout_names.specs.Names.{names_of, earlier, first_within}
use Rattle.layout_names.proofs.Repeats.{first-is}
use Rattle.layout_names.proofs.within.Goals as goal

pub returns : goal.returns
unfolding first_within
returns c =
    let a = c.args in
    sym (option_map_id c.find.result)
    ∙ find_from_yields_List (earlier (names_of a.text.now a.froms.now a.tos.now) a.from) _ _ c.find.result c.find.ensures.ran
    (YieldsList-from_range a.from a.to (a.to - a.from) refl refl) (λ x b q k. search (rules, tests))
    ∙ first-is _ (a.to - a.from) a.from
