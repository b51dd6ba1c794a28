-- A refusal of `place` tells 0 in every other field, and nothing lent changes.
use Prim.Native.Nat.{ℕ}
use mathlib.Core.Path.{◌≡◌, refl, sym, subst}
use mathlib.Core.Bool.{false, true≢false}
use mathlib.Core.List.{List}
use Rattle.octets.proofs.Choices.{picks}
use Rattle.answer.specs.Told.{Told}
use Rattle.report.specs.declared.Content.{Content}
use Rattle.report.specs.declared.Content.TheVariants as content
use Rattle.report.specs.declared.Report.{Report}
use Rattle.image.specs.Line.{Image, Line}
use Rattle.image.specs.Placing.{Outcome, placing, brought, reported, outcome, RefusalLeavesAll}

module _ (packet : List ℕ) (arrival wanted : ℕ) (before : Image) where
  abbrev Leaves : Outcome → Type 0
  Leaves o = o.answer.accepted ≡ false → (o.answer.fields ≡ 0) × (o.image ≡ before)

  placing-leaves : (l : Line) → Leaves (placing before l)
  unfolding placing
  placing-leaves l = picks Leaves _ _ _ (λ t h. (refl, refl)) (λ f h. absurd (true≢false h))

  brought-leaves : (c : Content) → Leaves (brought packet arrival wanted before c)
  unfolding brought
  brought-leaves (content.Line l) h = picks Leaves _ _ _ (λ t k. (refl, refl)) (λ f. placing-leaves _) h
  brought-leaves (content.Success c) h = (refl, refl)
  brought-leaves (content.Failure c) h = (refl, refl)
  brought-leaves (content.Housekeeping c) h = (refl, refl)
  brought-leaves (content.Available c) h = (refl, refl)

  reported-leaves : (r : Told Report) → Leaves (reported packet arrival wanted before r)
  unfolding reported
  reported-leaves r = picks Leaves _ _ _ (λ t. brought-leaves _) (λ f h. (refl, refl))

  outcome-leaves : Leaves (outcome packet arrival wanted before)
  unfolding outcome
  outcome-leaves = picks Leaves _ _ _ (λ t h. (refl, refl)) (λ f. picks Leaves _ _ _ (λ t h. (refl, refl)) (λ g. reported-leaves _))

pub refusal-leaves-all : RefusalLeavesAll
refusal-leaves-all packet arrival wanted before answer after h =
    subst (Leaves packet arrival wanted before) (sym h) (outcome-leaves packet arrival wanted before)
