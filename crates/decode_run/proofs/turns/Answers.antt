use Rattle.std.proofs.Common.{◌≡◌, sym, refl, ◌∙◌, true≢false, arith}
use borrow.Author.Tests.{not-true, not-false}
use Rattle.window.specs.Turns.{most}
use Rattle.window.proofs.Looping.{stopped, all_made}
use Rattle.decode_run.proofs.Whole.{not_gone, gone_on, begun}
use Rattle.decode_run.proofs.turns.Goals.{else-loop-i-test, then-loop-i-test+then-not-state}
use Rattle.decode_run.proofs.turns.Goals as goal

pub loop-i-init : goal.loop-i-init
loop-i-init c = (refl, not_gone)

pub loop-i-preserved : goal.loop-i-preserved
loop-i-preserved c =
    let l = c.loop-i.invariant in
    (l.0, gone_on l.1 (not-false _ c.if-not-state.false) c.turn-state.ensures)

pub returns-then-state : goal.returns-then-state
returns-then-state c =
    let a = c.args in
    let l = c.loop-i.invariant in
    let all : c.loop-i.i ≡ most = elim c.loop-i-test.branch [
      | else-loop-i-test w ↦ omega (arith, w.loop-i-test)
      | then-loop-i-test+then-not-state w ↦ absurd (true≢false (sym c.if-state.true ∙ not-true _ w.if-not-state.true))
    ] in
    let same : c.loop-i.i ≡ c.loop-i-test.made = elim c.loop-i-test.branch [
      | else-loop-i-test w ↦ all ∙ sym l.0 ∙ sym w.made-is
      | then-loop-i-test+then-not-state w ↦ sym w.made-is
    ] in
    record {
      octets = l.1.octets;
      loops = begun a.receiver a.first a.input.now a.kept.now c.none-read.ensures c.failed.ensures
          (rw same at (all_made l.1.made all));
      last = λ e. absurd (true≢false (sym c.if-state.true ∙ e));
    }

pub returns : goal.returns
returns c =
    let a = c.args in
    let l = c.loop-i.invariant in
    let same : c.loop-i.i ≡ c.loop-i-test.made = elim c.loop-i-test.branch [
      | else-loop-i-test w ↦ omega (arith, w.loop-i-test, w.made-is, l.0)
      | then-loop-i-test+then-not-state w ↦ sym w.made-is
    ] in
    record {
      octets = l.1.octets;
      loops = begun a.receiver a.first a.input.now a.kept.now c.none-read.ensures c.failed.ensures
          (rw same at (stopped l.1.made c.if-state.false));
      last = λ _. c.ended-last.ensures;
    }
