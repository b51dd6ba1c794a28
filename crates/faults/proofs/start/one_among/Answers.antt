-- `faults::start::one_among` meets its contract.
use Rattle.std.proofs.Common.{ℕ, Bool, not, ◌||◌, refl, ◌∙◌, rules, tests}
use Rattle.std.specs.Prelude.{◌==◌}
use Rattle.std.specs.List.{list_any}
use Rattle.std.proofs.lemmas.Iterator.{YieldsList-from_slice}
use Rattle.std.proofs.lemmas.Iterator.Search.{any_from_yields_List}
use Rattle.std.proofs.lemmas.List.Recursion.{same_from_clauses}
use Rattle.faults.specs.Look.{one_among}
use Rattle.faults.proofs.start.one_among.Goals as goal

a_one : ℕ → Bool
a_one x = not (x == 0)

pub returns : goal.returns
unfolding a_one
returns c =
    let xs = c.args.octets.now in
    any_from_yields_List a_one _ _ _ c.any.ensures.ran (YieldsList-from_slice xs (search rules)) (λ x b q k. search (rules, tests))
    ∙ same_from_clauses (list_any a_one) one_among (λ x r. a_one x || r) refl (λ _ _. refl) (λ _ _. refl) xs
