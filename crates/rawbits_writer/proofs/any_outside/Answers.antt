use Rattle.std.proofs.Common.{◌||◌, refl, ◌∙◌, rules, tests}
use Rattle.std.specs.List.{list_any}
use Rattle.std.proofs.lemmas.Iterator.{YieldsList-from_slice}
use Rattle.std.proofs.lemmas.Iterator.Search.{any_from_yields_List}
use Rattle.std.proofs.lemmas.List.Recursion.{same_from_clauses}
use Rattle.rawbits_writer.specs.Stream.{outside, any_outside}
use Rattle.rawbits_writer.proofs.any_outside.Goals as goal

pub returns : goal.returns
returns c =
    let xs = c.args.lengths.now in
    any_from_yields_List outside _ _ _ c.any.ensures.ran (YieldsList-from_slice xs (search rules)) (λ x b q k. search (rules, tests))
    ∙ same_from_clauses (list_any outside) any_outside (λ x r. outside x || r) refl (λ _ _. refl) (λ _ _. refl) xs
