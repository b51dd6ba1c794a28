-- `faults::start::alone` meets its contract.
use Rattle.std.proofs.Common.{ℕ, Bool, ◌&&◌, refl, ◌∙◌, rules, tests}
use Rattle.std.specs.Prelude.{nat_le}
use Rattle.std.specs.List.{list_all}
use Rattle.std.proofs.lemmas.Iterator.{YieldsList-from_slice}
use Rattle.std.proofs.lemmas.Iterator.Search.{all_from_yields_List}
use Rattle.std.proofs.lemmas.List.Recursion.{same_from_clauses}
use Rattle.faults.specs.Look.{alone}
use Rattle.faults.proofs.start.alone.Goals as goal

a_bit : ℕ → Bool
a_bit x = nat_le x 1

pub returns : goal.returns
unfolding a_bit
returns c =
    let xs = c.args.octets.now in
    all_from_yields_List a_bit _ _ _ c.all.ensures.ran (YieldsList-from_slice xs (search rules)) (λ x b q k. search (rules, tests))
    ∙ same_from_clauses (list_all a_bit) alone (λ x r. a_bit x && r) refl (λ _ _. refl) (λ _ _. refl) xs
