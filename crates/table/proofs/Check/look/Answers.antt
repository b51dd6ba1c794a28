use mathlib.Core.Path.{refl, sym, ◌∙◌}
use lib.ListN.{length-drop}
use Rattle.table.specs.Look.{handed}
use Rattle.table.proofs.Told.{told-some, told-none}
use Rattle.table.proofs.Looking.{looks_not, lent-from, passes, starved, passes_on, stops, again}
use borrow.Author.Rules.{rules}
use Rattle.table.proofs.Check.look.Goals as goal

pub returns-then-not-check : goal.returns-then-not-check
returns-then-not-check c = looks_not _ _ _ c.if-not-check.true

pub loop-check-init : goal.loop-check-init
loop-check-init c = (search rules, refl)

pub returns-then-rows-at-lt-ROW : goal.returns-then-rows-at-lt-ROW
returns-then-rows-at-lt-ROW c =
    starved _ _ _ c.if-not-check.false c.loop-check.check c.loop-check.at c.loop-check.invariant.1 c.loop-check-test.true c.if-rows-at-lt-ROW.true

pub four_at-number-requires : goal.four_at-number-requires
four_at-number-requires c = rw (lent-from _ _) (simp length-drop (search rules))

pub returns-then-check-number : goal.returns-then-check-number
returns-then-check-number c =
    passes_on _ _ _ c.if-not-check.false c.loop-check.check c.loop-check.at c.loop-check.invariant.1 c.loop-check-test.true
    c.if-rows-at-lt-ROW.false c.four_at-number.ensures c.if-check-number.true

pub reason-requires : goal.reason-requires
reason-requires c = record {
  in_bounds = rw (lent-from _ _) (simp length-drop (search rules));
  accepted_value = c.accepted-accepted.ensures;
}

pub returns-in-Some : goal.returns-in-Some
returns-in-Some c =
    let t = told-some _ _ c.in-Some.ensures in
    stops _ _ _ c.if-not-check.false c.loop-check.check c.loop-check.at c.loop-check.invariant.1 c.loop-check-test.true
    c.if-rows-at-lt-ROW.false c.four_at-number.ensures c.if-check-number.false t.0 t.1

pub loop-check-preserved : goal.loop-check-preserved
loop-check-preserved c =
    let a = c.args in (
      search rules,
      again a.self a.rows.now (handed a.packet.now a.arrival) c.if-not-check.false c.loop-check.check c.loop-check.at
          c.loop-check.invariant.1 c.loop-check-test.true
          c.if-rows-at-lt-ROW.false c.four_at-number.ensures c.if-check-number.false refl (told-none _ (sym c.in_default.is ∙ c.reason.ensures)),
    )

pub returns : goal.returns
returns c =
    passes _ _ _ c.if-not-check.false c.loop-check.check c.loop-check.at c.loop-check.invariant.1 c.loop-check-test.false
