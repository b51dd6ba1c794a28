-- `layouts::wrong::reason` meets its contract.
use mathlib.Core.Path.{refl, sym, ◌∙◌}
use lib.Dec.{eqb}
use Rattle.octets.proofs.Choices.{picked, passed}
use Rattle.layouts.specs.Reason.{reason_at}
use Rattle.layouts.proofs.Reasons.{and_through}
use borrow.Author.Rules.{rules}
use Rattle.layouts.proofs.wrong.reason.Statement.{statement}
use Rattle.layouts.proofs.wrong.reason.Tie as tie

returns : tie.Need-returns-then-at-marked
unfolding reason_at
returns c = picked _ _ _ (and_through (eqb c.args.at 0) c.marked.ensures c.if-at-marked.true)

returns-2 : tie.Need-returns-then-in_line
unfolding reason_at
returns-2 c =
    let p2 = c in
    passed _ _ _ _ (and_through (eqb p2.args.at 0) p2.marked.ensures p2.if-at-marked.false)
    (picked _ _ _ (sym c.in_line.ensures ∙ c.if-in_line.true))

returns-3 : tie.Need-returns-then-in_line-2
unfolding reason_at
returns-3 c =
    let p2 = c in
    let p4 = p2 in
    passed _ _ _ _ (and_through (eqb p4.args.at 0) p4.marked.ensures p4.if-at-marked.false)
    (passed _ _ _ _ (sym p2.in_line.ensures ∙ p2.if-in_line.false)
    (picked _ _ _ (sym c.in_line-2.ensures ∙ c.if-in_line-2.true)))

returns-4 : tie.Need-returns-then-zero_at
unfolding reason_at
returns-4 c =
    let p2 = c in
    let p4 = p2 in
    let p6 = p4 in
    passed _ _ _ _ (and_through (eqb p6.args.at 0) p6.marked.ensures p6.if-at-marked.false)
    (passed _ _ _ _ (sym p4.in_line.ensures ∙ p4.if-in_line.false)
    (passed _ _ _ _ (sym p2.in_line-2.ensures ∙ p2.if-in_line-2.false)
    (picked _ _ _ (sym c.zero_at.ensures ∙ c.if-zero_at.true))))

returns-5 : tie.Need-returns
unfolding reason_at
returns-5 c =
    let p2 = c in
    let p4 = p2 in
    let p6 = p4 in
    passed _ _ _ _ (and_through (eqb p6.args.at 0) p6.marked.ensures p6.if-at-marked.false)
    (passed _ _ _ _ (sym p4.in_line.ensures ∙ p4.if-in_line.false)
    (passed _ _ _ _ (sym p2.in_line-2.ensures ∙ p2.if-in_line-2.false)
    (passed _ _ _ _ (sym c.zero_at.ensures ∙ c.if-zero_at.false) refl)))

pub reason_spec : {M : Type 1} → statement M
reason_spec =
    tie.close
    (tie.spec
    (λ c κs. search rules) returns (λ c κs. search rules) returns-2 (λ c κs. search rules) returns-3 (λ c κs. search rules)
    returns-4 returns-5)
