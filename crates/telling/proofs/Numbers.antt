-- The next number of which there were any.
use Rattle.std.proofs.Common.{◌≡◌, ℕ, suc, ◌+◌, ◌<◌, ◌≤◌, eqb, List, length, drop, sym, refl, ap, ◌∙◌, add-zero, add-one, arith, drop_of_length-le, drop-cons, eq-eqb, ne_eqb}
use Rattle.octets.specs.Numbers.{at}
use Rattle.octets.specs.Pick.{pick}
use Rattle.octets.proofs.Choices.{picked, passed}
use Rattle.telling.specs.Counts.{none_before, next_of}

module _ (counts : List ℕ) (from i : ℕ) (so_far : next_of counts from ≡ next_of counts i) where
  here : i < length counts → next_of counts i ≡ i + pick (eqb (at counts i) 0) (1 + none_before (drop (suc i) counts)) 0
  unfolding next_of
  here h = ap (λ (l : List ℕ). i + none_before l) (drop-cons counts i 0 h)

  pub any_here : i < length counts → (at counts i ≡ 0 → ⊥) → i ≡ next_of counts from
  any_here h n =
      sym (so_far ∙ here h ∙ ap (λ (k : ℕ). i + k)
      (sym (passed (eqb (at counts i) 0) (1 + none_before (drop (suc i) counts)) 0 0 (ne_eqb _ _ n) refl)) ∙ add-zero i)

  pub none_here : i < length counts → at counts i ≡ 0 → next_of counts from ≡ next_of counts (i + 1)
  unfolding next_of
  none_here h z =
      let k : ℕ = none_before (drop (suc i) counts) in
      let e : i + (1 + k) ≡ (i + 1) + k = omega arith in
      so_far ∙ here h ∙ ap (λ (j : ℕ). i + j) (sym (picked (eqb (at counts i) 0) (1 + k) 0 (eq-eqb _ _ z))) ∙ e
      ∙ ap (λ (j : ℕ). (i + 1) + none_before (drop j counts)) (sym (add-one i))

  pub none_left : length counts ≤ i → i ≡ next_of counts from
  unfolding next_of
  none_left h = sym (so_far ∙ ap (λ (l : List ℕ). i + none_before l) (drop_of_length-le counts h) ∙ add-zero i)

-- not before
pub next-behind : (counts : List ℕ) (from : ℕ) → from ≤ next_of counts from
unfolding next_of
next-behind counts from = omega arith
