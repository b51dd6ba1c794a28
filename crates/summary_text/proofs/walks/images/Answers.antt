-- `summary_text::walks::images` meets its contract. The loop has told the images at places below i.
use Prim.Native.Nat.{ℕ, ◌-◌}
use mathlib.Core.List.{List}
use Rattle.summary_pen.specs.Words.{if_any}
use Rattle.summary_pen.specs.Choice.{form}
use Rattle.summary_text.specs.Text.{image_texts}
use Rattle.summary_pen.proofs.Saying.{read-two, through_none, through_on, through_all}
use borrow.Author.Rules.{rules}
use Rattle.summary_text.proofs.walks.images.Goals as goal

pub loop-i-init : goal.loop-i-init
loop-i-init c = through_none _ _ _

pub loop-i-preserved : goal.loop-i-preserved
loop-i-preserved c =
    let l = c.loop-i in
    let a = c.args in
    let text : ℕ → ℕ → List ℕ = λ key lines. if_any key ((form a.csv).image (key - 1) lines) in
    let told = read-two text c.of-key.ensures c.received-lines.ensures c.image-pen.ensures in
    through_on _ _ l.i l.invariant (search rules) told

pub returns : goal.returns
unfolding image_texts
returns c = through_all _ _ c.loop-i.i c.loop-i.invariant (search rules)
