use Rattle.rawbits_writer.proofs.Answers.{asks, asks_room, refuses_51, refuses_50, writes}
use Rattle.rawbits_writer.proofs.write.Goals as goal

pub returns-then-any_outside-wrong : goal.returns-then-any_outside-wrong
returns-then-any_outside-wrong c =
    let a = c.args in
    refuses_51 a.octets.now a.lengths.now a.out.now c.any_outside.ensures c.wrong.ensures c.if-any_outside-wrong.true

pub short-requires : goal.short-requires
short-requires c =
    let a = c.args in
    asks a.octets.now a.lengths.now a.out.now c.any_outside.ensures c.wrong.ensures c.if-any_outside-wrong.false

pub returns-then-short : goal.returns-then-short
returns-then-short c =
    let a = c.args in
    refuses_50 a.octets.now a.lengths.now a.out.now c.any_outside.ensures c.wrong.ensures c.if-any_outside-wrong.false
    c.short.ensures c.if-short.true

pub lay-requires : goal.lay-requires
lay-requires c =
    let a = c.args in
    asks_room a.octets.now a.lengths.now a.out.now c.any_outside.ensures c.wrong.ensures c.if-any_outside-wrong.false
    c.short.ensures c.if-short.false

pub returns : goal.returns
returns c =
    let a = c.args in
    writes a.octets.now a.lengths.now a.out.now c.any_outside.ensures c.wrong.ensures c.if-any_outside-wrong.false
    c.short.ensures c.if-short.false (c.lay.ensures.value, c.lay.ensures.out_after)
