-- `Reader::scan` meets its contract.
use Rattle.std.proofs.Common.{◌+◌, ap, ◌∙◌}
use Rattle.kiss.specs.Reader.{closed}
use Rattle.kiss.specs.declared.Reader.{Reader}
use Rattle.kiss.proofs.Closing.{told_by_lem}
use Rattle.kiss.proofs.Scanning.{going-first, goes_on_lem, goes-past, stops, ends}
use Rattle.kiss.proofs.Scanning.{after-escape, after-plain, after-begins, takes_type, takes_none, takes_one}
use Rattle.kiss.proofs.Reader.scan.Goals as goal
use Rattle.kiss.proofs.Reader.scan.Goals.{then-escaping, else-escaping+else-x-2, then-count-le-KEPT, else-count-le-KEPT}

pub loop-i-init : goal.loop-i-init
loop-i-init c = going-first _ _

pub returns-then-marked-wrong : goal.returns-then-marked-wrong
returns-then-marked-wrong c =
    c.close.ensures ∙ ap (λ (a : Reader). closed a (c.loop-i.i + 1) c.loop-i.kept) c.at.ensures
    ∙ stops c.loop-i.invariant c.loop-i-test.true c.if-x.true c.if-marked-wrong.true

pub loop-i-preserved-then-x : goal.loop-i-preserved-then-x
loop-i-preserved-then-x c = goes-past c.loop-i.invariant c.loop-i-test.true c.if-x.true c.if-marked-wrong.false

pub loop-i-preserved-then-x-2 : goal.loop-i-preserved-then-x-2
loop-i-preserved-then-x-2 c =
    goes_on_lem c.loop-i.invariant c.loop-i-test.true c.if-x.false
    (after-begins _ _ _ c.if-escaping.false c.if-x-2.true)

pub loop-i-preserved-then-count-eq0 : goal.loop-i-preserved-then-count-eq0
loop-i-preserved-then-count-eq0 c =
    goes_on_lem c.loop-i.invariant c.loop-i-test.true c.if-x.false
    (elim c.if-escaping.branch [
      | then-escaping w ↦ after-escape _ _ _ w.if-escaping.true w.misplaced-wrong.ensures w.meant-x.ensures w.escaping-is w.wrong-is w.x-is
      | else-escaping+else-x-2 w ↦ after-plain _ _ _ w.if-escaping.false w.if-x-2.false w.escaping-is w.wrong-is w.x-is
    ]
    ∙ takes_type _ _ _ c.if-count-eq0.true)

pub loop-i-preserved : goal.loop-i-preserved
loop-i-preserved c =
    goes_on_lem c.loop-i.invariant c.loop-i-test.true c.if-x.false
    (elim c.if-escaping.branch [
      | then-escaping w ↦ after-escape _ _ _ w.if-escaping.true w.misplaced-wrong.ensures w.meant-x.ensures w.escaping-is w.wrong-is w.x-is
      | else-escaping+else-x-2 w ↦ after-plain _ _ _ w.if-escaping.false w.if-x-2.false w.escaping-is w.wrong-is w.x-is
    ]
    ∙ elim c.if-count-le-KEPT.branch [
      | then-count-le-KEPT w ↦ rw (w.kept-is, w.count-is) (takes_one _ _ _ c.if-count-eq0.false w.if-count-le-KEPT.true)
      | else-count-le-KEPT w ↦ rw (w.kept-is, w.count-is) (takes_none _ _ _ c.if-count-eq0.false w.if-count-le-KEPT.false)
    ])

pub returns : goal.returns
returns c = told_by_lem _ c.at-2.ensures c.tells.ensures ∙ ends c.loop-i.invariant c.loop-i.auto.i-end c.loop-i-test.false
