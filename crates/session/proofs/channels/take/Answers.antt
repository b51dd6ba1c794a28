-- `channels::take` cuts, hands out, and keeps what is left.
use Rattle.std.proofs.Common.{arith}
use Rattle.session.proofs.Taking.{to-cut, few-packets, few-headers, to_complete, to-hand-out, takes}
use Rattle.session.proofs.channels.take.Goals as goal

pub cut-cut-requires : goal.cut-cut-requires
cut-cut-requires c =
    let a = c.args in
    to-cut a.dropped a.held.now a.«data».now a.octets.now a.lengths.now a.firsts.now c.requires

pub hand_out-requires : goal.hand_out-requires
hand_out-requires c =
    let k = c.cut-cut in
    let a = c.args in
    to-hand-out a.dropped a.held.now a.«data».now a.octets.now a.lengths.now a.firsts.now c.requires a.first
    a.head.arrival k.result _ _ k.ensures

pub left-requires : goal.left-requires
left-requires c = c.cut-cut.ensures.kept

pub overflow_cast-result : goal.overflow_cast-result
overflow_cast-result c =
    let k = c.cut-cut in
    let a = c.args in
    omega (
      arith,
      few-packets a.dropped a.held.now a.«data».now a.octets.now a.lengths.now a.firsts.now c.requires
          a.first a.head.arrival k.result _ _ k.ensures,
    )

pub completed-requires : goal.completed-requires
completed-requires c =
    let k = c.cut-cut in
    let a = c.args in
    to_complete a.dropped a.held.now a.«data».now a.octets.now a.lengths.now a.firsts.now c.requires a.first
    a.head.arrival k.result _ _ k.ensures

pub overflow_cast-result-2 : goal.overflow_cast-result-2
overflow_cast-result-2 c =
    let k = c.cut-cut in
    let a = c.args in
    omega (
      arith,
      few-headers a.dropped a.held.now a.«data».now a.octets.now a.lengths.now a.firsts.now c.requires a.first
          a.head.arrival k.result _ _ k.ensures
          c.completed.result c.completed.ensures,
    )

pub returns : goal.returns
returns c g begun =
    let k = c.cut-cut in
    let h = c.hand_out in
    let a = c.args in
    takes a.dropped a.held.now a.«data».now a.octets.now a.lengths.now a.firsts.now c.requires a.first
    a.head.arrival k.result _ _ k.ensures
    g begun a.head.count.0 a.on _ h.ensures c.left.result c.completed.result c.completed.ensures
    c.left.ensures
