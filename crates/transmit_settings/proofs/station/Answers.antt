-- `station` meets its contract.
use Rattle.std.proofs.Common.{ltb, length, arith}
use Rattle.transmit_settings.proofs.Setting.{no_address, source-set, destination-set, ssid-fits}
use Rattle.transmit_settings.proofs.station.Goals as goal

pub returns-then-callsign-n : goal.returns-then-callsign-n
returns-then-callsign-n c =
    no_address _ c.word-callsign.ensures c.rest.ensures c.number-n.ensures _ _ c.if-callsign-n.true
    c.stopped.ensures

pub overflow_cast-n : goal.overflow_cast-n
overflow_cast-n c =
    omega (arith, ssid-fits (ltb 6 (length c.word-callsign.result.now)) c.number-n.result c.if-callsign-n.false)

pub returns-then-same : goal.returns-then-same
returns-then-same c =
    source-set _ c.word-callsign.ensures c.rest.ensures c.number-n.ensures _ _
    c.if-callsign-n.false
    c.address-given.ensures c.same.ensures c.if-same.true c.going.ensures

pub returns : goal.returns
returns c =
    destination-set _ c.word-callsign.ensures c.rest.ensures c.number-n.ensures _ _
    c.if-callsign-n.false
    c.address-given.ensures c.same.ensures c.if-same.false c.going-2.ensures
