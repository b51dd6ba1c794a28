-- `make` meets its contract.
use Rattle.transmit_steps.proofs.Making.{no_more, made-sent, made-empty, made-frame, made-set}
use Rattle.transmit_steps.proofs.make.Goals as goal

pub returns-then-frames-state : goal.returns-then-frames-state
returns-then-frames-state c = no_more _ _ _ _ _ _ _ c.if-frames-state.true c.stopped.ensures

pub returns-then-same : goal.returns-then-same
returns-then-same c =
    made-sent _ _ _ _ _ _ _ c.if-frames-state.false c.same.ensures c.if-same.true c.send_all.ensures

pub returns-then-same-2 : goal.returns-then-same-2
returns-then-same-2 c =
    made-empty _ _ _ _ _ _ _ c.if-frames-state.false
    c.same.ensures c.if-same.false c.same-2.ensures
    c.if-same-2.true
    c.empty.ensures

pub returns-then-same-3 : goal.returns-then-same-3
returns-then-same-3 c =
    made-frame _ _ _ _ _ _ _ c.if-frames-state.false
    c.same.ensures
    c.if-same.false c.same-2.ensures
    c.if-same-2.false
    c.word-word.ensures
    c.rest-value.ensures
    c.same-3.ensures c.if-same-3.true c.frame.ensures

pub returns : goal.returns
returns c =
    made-set _ _ _ _ _ _ _ c.if-frames-state.false
    c.same.ensures
    c.if-same.false c.same-2.ensures
    c.if-same-2.false
    c.word-word.ensures
    c.rest-value.ensures
    c.same-3.ensures c.if-same-3.false c.set.ensures
