use Rattle.std.proofs.Common.{length, sym, ◌∙◌, arith}
use Rattle.answer.proofs.Writer.{refused_51, refused_50, wrote}
use Rattle.frame.proofs.Laying.{in_range, short, long, octets-length, room}
use Rattle.frame.proofs.Frame.write.Goals as goal

pub returns-then-fields_wrong : goal.returns-then-fields_wrong
returns-then-fields_wrong c = search refused_51

pub overflow_add-whole-2 : goal.overflow_add-whole-2
overflow_add-whole-2 c =
    let a = c.args in
    let r =
    in_range a.self a.t (length a.«data».now) (length a.time.now) (sym c.fields_wrong.ensures ∙ c.if-fields_wrong.false) in
    omega (arith, r.time, r.lent)

pub returns-then-out-whole : goal.returns-then-out-whole
returns-then-out-whole c = search (refused_50, short)

pub lay-requires : goal.lay-requires
lay-requires c = search room

pub returns : goal.returns
returns c = search (wrote, long, octets-length)
