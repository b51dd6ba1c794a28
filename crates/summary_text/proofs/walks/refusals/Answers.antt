-- `summary_text::walks::refusals` meets its contract. The loop has told the refusals below number i.
use Prim.Native.Nat.{ℕ, ◌-◌}
use mathlib.Core.Path.{ap}
use mathlib.Core.List.{List}
use Rattle.summary_pen.specs.Words.{pair, if_any}
use Rattle.summary_text.specs.Text.{refusals}
use Rattle.summary_pen.proofs.Saying.{reads, through_none, through_on, through_all}
use borrow.Author.Rules.{rules}
use Rattle.summary_text.proofs.walks.refusals.Goals as goal

pub loop-i-init : goal.loop-i-init
loop-i-init c = through_none _ _ _

pub loop-i-preserved : goal.loop-i-preserved
loop-i-preserved c =
    let l = c.loop-i in
    let a = c.args in
    let text : ℕ → List ℕ = λ n. if_any n (pair a.words.now a.others.now l.i n) in
    let told = reads (ap text c.of-n.ensures) c.refusal-pen.ensures in
    through_on _ _ l.i l.invariant (search rules) told

pub returns : goal.returns
unfolding refusals
returns c = through_all _ _ c.loop-i.i c.loop-i.invariant (search rules)
