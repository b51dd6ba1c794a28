-- `ending::none_received` meets its contract.
use Rattle.std.proofs.Common.{ℕ, Bool, ◌&&◌, refl, ◌∙◌, rules, tests}
use Rattle.std.specs.Prelude.{◌==◌}
use Rattle.std.specs.List.{list_all}
use Rattle.std.proofs.lemmas.Iterator.{YieldsList-from_slice}
use Rattle.std.proofs.lemmas.Iterator.Search.{all_from_yields_List}
use Rattle.std.proofs.lemmas.List.Recursion.{same_from_clauses}
use Rattle.picture_run.specs.Files.{no_line}
use Rattle.picture_run.proofs.ending.none_received.Goals as goal

no_number : ℕ → Bool
no_number x = x == 0

pub returns : goal.returns
unfolding no_number
returns c =
    let xs = c.args.numbers.now in
    all_from_yields_List no_number _ _ _ c.all.ensures.ran (YieldsList-from_slice xs (search rules)) (λ x b q k. search (rules, tests))
    ∙ same_from_clauses (list_all no_number) no_line (λ x r. no_number x && r) refl (λ _ _. refl) (λ _ _. refl) xs
