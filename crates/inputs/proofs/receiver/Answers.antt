-- `receiver` meets its contract.
use Rattle.inputs.proofs.Words.{kiss_named, bits-named, none_named_lem}
use Rattle.inputs.proofs.receiver.Goals as goal

pub returns-then-same : goal.returns-then-same
returns-then-same c =
    kiss_named _ _ c.same.ensures c.if-same.true c.time.ensures c.kiss.ensures.receiver

pub returns-then-same-2 : goal.returns-then-same-2
returns-then-same-2 c =
    bits-named _ _ c.same.ensures c.same-2.ensures
    c.if-same.false c.if-same-2.true c.time-then-same-2.ensures c.bits.ensures.receiver

pub returns : goal.returns
returns c =
    none_named_lem _ _ c.same.ensures c.same-2.ensures
    c.if-same.false c.if-same-2.false c.recording.ensures
