-- `layouts::wrong::numbers_at` meets its contract.
use Prim.Native.Nat.{ℕ}
use mathlib.Core.Path.{refl, ap, sym, ◌∙◌}
use mathlib.Core.List.{List}
use Rattle.octets.specs.Same.{same}
use Rattle.octets.proofs.Choices.{picked, passed}
use Rattle.layouts.specs.Line.{layout_word}
use Rattle.layouts.specs.Reason.{numbers_at}
use Rattle.layouts.proofs.wrong.numbers_at.Goals as goal

pub returns-then-same : goal.returns-then-same
unfolding numbers_at
returns-then-same c =
    let word = ap (λ (s : List ℕ). same s layout_word) (sym c.part.ensures) in
    c.second.ensures ∙ picked _ _ _ (word ∙ sym c.same.ensures ∙ c.if-same.true)

pub returns : goal.returns
unfolding numbers_at
returns c =
    let word = ap (λ (s : List ℕ). same s layout_word) (sym c.part.ensures) in
    passed _ _ _ _ (word ∙ sym c.same.ensures ∙ c.if-same.false) refl
