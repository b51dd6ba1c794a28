-- A refusal of `missing` tells 0 in every other field, and the list stays.
use Prim.Native.Nat.{ℕ}
use mathlib.Core.Path.{◌≡◌, refl, sym, subst, ◌∙◌}
use mathlib.Core.Bool.{true, false, true≢false}
use mathlib.Core.List.{List}
use Rattle.octets.proofs.Choices.{picks}
use Rattle.answer.specs.Told.{Told}
use Rattle.sequence.specs.Sequence.{Between, missing, since, Outcome, outcome, RefusalLeavesAll}

-- the gap itself is never a refusal
abbrev Accepts : Told Between → Type 0
Accepts t = t.accepted ≡ true

accepts : (held count : ℕ) → Accepts (since held count)
unfolding since
accepts held count = picks Accepts _ _ _ (λ t. refl) (λ f. picks Accepts _ _ _ (λ t. refl) (λ g. refl))

module _ (apid count : ℕ) (before : List ℕ) where
  abbrev Leaves : Outcome → Type 0
  Leaves o = o.answer.accepted ≡ false → (o.answer.fields ≡ missing 0) × (o.list ≡ before)

  outcome-leaves : Leaves (outcome apid count before)
  unfolding outcome
  outcome-leaves =
      picks Leaves _ _ _ (λ t h. (refl, refl))
      (λ f. picks Leaves _ _ _ (λ t h. (refl, refl))
      (λ g. picks Leaves _ _ _ (λ t h. (refl, refl)) (λ k h. absurd (true≢false (sym (accepts _ count) ∙ h)))))

pub refusal-leaves-all : RefusalLeavesAll
refusal-leaves-all apid count before answer after h = subst (Leaves apid count before) (sym h) (outcome-leaves apid count before)
