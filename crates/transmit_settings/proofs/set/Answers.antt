-- `set` meets its contract.
use Rattle.transmit_settings.proofs.Setting.{set-address, set-time, set-number}
use Rattle.transmit_settings.proofs.set.Goals as goal

pub returns-then-same : goal.returns-then-same
returns-then-same c =
    set-address _ _ _ _ c.same.ensures c.same-2.ensures c.if-same.true c.station.ensures

pub returns-then-same-2 : goal.returns-then-same-2
returns-then-same-2 c =
    set-time _ _ _ _ c.same.ensures c.same-2.ensures c.if-same.false
    c.same-3.ensures c.if-same-2.true c.time.ensures.0 c.time.ensures.1

pub returns : goal.returns
returns c =
    set-number _ _ _ _ c.same.ensures c.same-2.ensures c.if-same.false
    c.same-3.ensures c.if-same-2.false c.number.ensures c.number-2.ensures
