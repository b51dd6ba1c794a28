-- `summary_pen::lines::parts` meets its contract. The loop has added up n so often.
use Prim.Native.Nat.{ℕ, ◌-◌, ◌≤◌}
use native.Mathlib.Omega.{arith}
use mathlib.Core.Path.{◌≡◌, sym, subst, ◌∙◌}
use Rattle.summary_pen.proofs.Shares.{within, Added, added_none, added-over, added_full, added-all, none_of_none}
use borrow.Author.Rules.{rules}
use Rattle.summary_pen.proofs.lines.parts.Goals as goal
use Rattle.summary_pen.proofs.lines.parts.Goals.{then-over-others, else-over-others}

pub returns-then-all-eq0 : goal.returns-then-all-eq0
returns-then-all-eq0 c = let e = c.sum-all.ensures in none_of_none _ _ (sym e ∙ search rules)

pub overflow_sub-others : goal.overflow_sub-others
overflow_sub-others c = omega (arith, c.sum-all.ensures, within c.args.n c.args.rest (search rules))

pub loop-turn-init : goal.loop-turn-init
loop-turn-init c = added_none (search rules)

pub loop-turn-preserved : goal.loop-turn-preserved
loop-turn-preserved c =
    let l = c.loop-turn in
    let sum = c.sum-all in
    let a = c.args in
    let enough : a.n ≤ sum.result = omega (arith, sum.ensures, within a.n a.rest (search rules)) in
    elim c.if-over-others.branch [
      | then-over-others w ↦ added-over l.invariant enough w.if-over-others.true w.full-is w.over-is
      | else-over-others w ↦ added_full l.invariant enough w.if-over-others.false w.full-is w.over-is
    ]

pub returns : goal.returns
returns c =
    let l = c.loop-turn in
    let n = c.args.n in
    let all = c.sum-all.result in
    let turns : l.turn ≡ 1000 = omega arith in
    added-all c.sum-all.ensures (subst (λ (i : ℕ). Added n all i l.full l.over) turns l.invariant)
