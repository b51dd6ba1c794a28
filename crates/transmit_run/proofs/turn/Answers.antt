-- `turn` meets its contract.
use Rattle.transmit_run.proofs.Turning.{linked, used}
use Rattle.transmit_run.proofs.turn.Goals as goal

pub returns-then-same : goal.returns-then-same
returns-then-same c =
    linked _ _ _ _ _ c.part-line.ensures c.word.ensures c.same.ensures
    c.if-same.true
    c.wrapping_add_usize.ensures.value c.rest.ensures

pub returns : goal.returns
returns c =
    used _ _ _ _ _ c.part-line.ensures c.word.ensures c.same.ensures
    c.if-same.false c.step-stepped.ensures
    c.part.ensures c.lose.ensures c.saturating_sub-more.ensures c.wrapping_add_usize-2.ensures.value
    c.saturating_sub.ensures
