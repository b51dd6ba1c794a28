-- `summary_text::walks::received` meets its contract. The loop has looked at the first i lines.
use Prim.Native.Nat.{ℕ, ◌+◌, ◌-◌}
use mathlib.Core.Path.{◌≡◌, sym, subst}
use Rattle.summary_text.proofs.Marks.{Marked, marked-none, marked-one, marked_no, marked_all}
use borrow.Author.Rules.{rules}
use Rattle.summary_text.proofs.walks.received.Goals as goal
use Rattle.summary_text.proofs.walks.received.Goals.{then-n-ne0, else-n-ne0}

pub loop-i-init : goal.loop-i-init
loop-i-init c = marked-none 120 _ _

pub loop-i-preserved : goal.loop-i-preserved
loop-i-preserved c =
    let l = c.loop-i in
    let a = c.args in
    let counted : ℕ → Type 0 = Marked 120 a.from a.counts.now (l.i + 1) in
    let same : (n : ℕ) → c.if-n-ne0.lines ≡ n → counted n → counted c.if-n-ne0.lines = λ n e m. subst counted (sym e) m in
    let of = c.of-n.ensures in
    elim c.if-n-ne0.branch [
      | then-n-ne0 w ↦ same _ w.lines-is (marked-one 120 a.from a.counts.now l.i l.invariant of (search rules) w.if-n-ne0.true)
      | else-n-ne0 w ↦ same _ w.lines-is (marked_no 120 a.from a.counts.now l.i l.invariant of (search rules) w.if-n-ne0.false)
    ]

pub returns : goal.returns
returns c =
    marked_all 120 _ _ c.loop-i.i c.loop-i.lines (search rules) c.loop-i.invariant
