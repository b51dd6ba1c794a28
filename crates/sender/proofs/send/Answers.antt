-- `send` is the first refusal that holds, or all frames.
use Rattle.sender.specs.Frames.{wanted}
use Rattle.sender.specs.Send.{lent}
use Rattle.sender.proofs.Answers.{size-at, short-at, sent_51, sent_52, sent_53, sent_50, adds, time-few, size-some, ready, sent-all}
use Rattle.std.proofs.Common.{arith}
use Rattle.sender.proofs.send.Goals as goal

pub returns-then-fields_wrong-wrong : goal.returns-then-fields_wrong-wrong
returns-then-fields_wrong-wrong c =
    let a = c.args in
    let w = wanted a.common a.master a.count a.time.now a.packets.now a.lengths.now a.size in
    let l = lent a.out.now a.frames.now in
    sent_51 w l c.fields_wrong.ensures c.wrong.ensures c.if-fields_wrong-wrong.true

pub packets_wrong-requires : goal.packets_wrong-requires
packets_wrong-requires c =
    let a = c.args in
    let w = wanted a.common a.master a.count a.time.now a.packets.now a.lengths.now a.size in
    let l = lent a.out.now a.frames.now in
    adds w l c.fields_wrong.ensures c.wrong.ensures c.if-fields_wrong-wrong.false

pub returns-then-packets_wrong : goal.returns-then-packets_wrong
returns-then-packets_wrong c =
    let a = c.args in
    let w = wanted a.common a.master a.count a.time.now a.packets.now a.lengths.now a.size in
    let l = lent a.out.now a.frames.now in
    sent_52 w l c.fields_wrong.ensures c.wrong.ensures c.if-fields_wrong-wrong.false c.packets_wrong.ensures
    c.if-packets_wrong.true

pub overflow_sub-t : goal.overflow_sub-t
overflow_sub-t c =
    let a = c.args in
    let w = wanted a.common a.master a.count a.time.now a.packets.now a.lengths.now a.size in
    let l = lent a.out.now a.frames.now in
    omega (arith, c.from-t.ensures, time-few w l c.fields_wrong.ensures c.wrong.ensures c.if-fields_wrong-wrong.false)

pub returns-then-size-t : goal.returns-then-size-t
returns-then-size-t c =
    let a = c.args in
    let w = wanted a.common a.master a.count a.time.now a.packets.now a.lengths.now a.size in
    let l = lent a.out.now a.frames.now in
    sent_53 w l c.fields_wrong.ensures c.wrong.ensures c.if-fields_wrong-wrong.false c.packets_wrong.ensures c.if-packets_wrong.false
    (size-at a.size c.from-t.ensures c.if-size-t.true)

pub full_frames-full-requires : goal.full_frames-full-requires
full_frames-full-requires c =
    let a = c.args in
    let w = wanted a.common a.master a.count a.time.now a.packets.now a.lengths.now a.size in
    let l = lent a.out.now a.frames.now in
    size-some w l c.fields_wrong.ensures c.wrong.ensures c.if-fields_wrong-wrong.false c.packets_wrong.ensures
    c.if-packets_wrong.false
    (size-at a.size c.from-t.ensures c.if-size-t.false)

pub room_wrong-requires : goal.room_wrong-requires
room_wrong-requires c =
    let a = c.args in
    let w = wanted a.common a.master a.count a.time.now a.packets.now a.lengths.now a.size in
    let l = lent a.out.now a.frames.now in
    (let h = time-few w l c.fields_wrong.ensures c.wrong.ensures c.if-fields_wrong-wrong.false in omega
    (arith, h, c.from-t.ensures))

pub returns-then-room_wrong : goal.returns-then-room_wrong
returns-then-room_wrong c =
    let a = c.args in
    let w = wanted a.common a.master a.count a.time.now a.packets.now a.lengths.now a.size in
    let l = lent a.out.now a.frames.now in
    sent_50 w l c.fields_wrong.ensures c.wrong.ensures c.if-fields_wrong-wrong.false c.packets_wrong.ensures c.if-packets_wrong.false
    (size-at a.size c.from-t.ensures c.if-size-t.false) c.full_frames-full.ensures
    (short-at _ _ _ _ c.from-t.ensures c.room_wrong.ensures) c.if-room_wrong.true

pub lay-requires : goal.lay-requires
lay-requires c =
    let a = c.args in
    let w = wanted a.common a.master a.count a.time.now a.packets.now a.lengths.now a.size in
    let l = lent a.out.now a.frames.now in
    ready w l c.fields_wrong.ensures c.wrong.ensures c.if-fields_wrong-wrong.false c.packets_wrong.ensures c.if-packets_wrong.false
    (size-at a.size c.from-t.ensures c.if-size-t.false) c.full_frames-full.ensures
    (short-at _ _ _ _ c.from-t.ensures c.room_wrong.ensures) c.if-room_wrong.false

pub returns : goal.returns
returns c =
    let a = c.args in
    let w = wanted a.common a.master a.count a.time.now a.packets.now a.lengths.now a.size in
    let l = lent a.out.now a.frames.now in
    sent-all w l c.fields_wrong.ensures c.wrong.ensures c.if-fields_wrong-wrong.false c.packets_wrong.ensures c.if-packets_wrong.false
    (size-at a.size c.from-t.ensures c.if-size-t.false) c.full_frames-full.ensures
    (short-at _ _ _ _ c.from-t.ensures c.room_wrong.ensures) c.if-room_wrong.false c.lay.ensures
