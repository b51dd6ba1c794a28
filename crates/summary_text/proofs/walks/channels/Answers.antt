-- `summary_text::walks::channels` meets its contract. The loop has told the channels below number i.
use Prim.Native.Nat.{ℕ, ◌-◌}
use mathlib.Core.List.{List}
use Rattle.summary_pen.specs.Words.{if_any}
use Rattle.summary_pen.specs.Choice.{form}
use Rattle.summary_text.specs.Text.{channel_texts}
use Rattle.summary_pen.proofs.Saying.{read-three, through_none, through_on, through_all}
use borrow.Author.Rules.{rules}
use Rattle.summary_text.proofs.walks.channels.Goals as goal

pub loop-i-init : goal.loop-i-init
loop-i-init c = through_none _ _ _

pub loop-i-preserved : goal.loop-i-preserved
loop-i-preserved c =
    let l = c.loop-i in
    let a = c.args in
    let text : ℕ → ℕ → ℕ → List ℕ = λ n lost unknown. if_any n ((form a.csv).channel l.i n lost unknown) in
    let told =
    read-three text c.of-n.ensures c.of-lost.ensures c.of-unknown.ensures c.channel-pen.ensures in
    through_on _ _ l.i l.invariant (search rules) told

pub returns : goal.returns
unfolding channel_texts
returns c = through_all _ _ c.loop-i.i c.loop-i.invariant (search rules)
