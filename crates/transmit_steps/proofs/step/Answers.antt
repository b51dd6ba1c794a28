-- `step` meets its contract.
use Rattle.transmit_steps.proofs.Making.{over, step-packet, step-full, step-made}
use Rattle.transmit_steps.proofs.step.Goals as goal

pub returns-then-passed_over : goal.returns-then-passed_over
returns-then-passed_over c = over _ _ _ _ _ _ _ c.passed_over.ensures c.if-passed_over.true c.going.ensures

pub returns-then-same : goal.returns-then-same
returns-then-same c =
    step-packet _ _ _ _ _ _ _ c.passed_over.ensures
    c.if-passed_over.false c.word.ensures c.same.ensures
    c.if-same.true c.rest.ensures c.packet.ensures

pub returns-then-made-from : goal.returns-then-made-from
returns-then-made-from c =
    step-full _ _ _ _ _ _ _ c.passed_over.ensures c.if-passed_over.false
    c.word.ensures c.same.ensures
    c.if-same.false c.if-made-from.true c.stopped.ensures

pub returns : goal.returns
returns c =
    step-made _ _ _ _ _ _ _ c.passed_over.ensures c.if-passed_over.false
    c.word.ensures c.same.ensures
    c.if-same.false c.if-made-from.false c.make.ensures
