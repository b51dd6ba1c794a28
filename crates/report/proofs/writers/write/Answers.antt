use Rattle.std.proofs.Common.{arith, sym}
use lib.Seq.{length-take-le}
use Rattle.report.proofs.Write.{core_passed, core_refused, core_written}
use Rattle.report.proofs.writers.write.Goals as goal

pub returns-then-wrong-c : goal.returns-then-wrong-c
returns-then-wrong-c c =
    let a = c.args in
    core_refused a.wrong a.packet a.a.now a.b.now a.c.now a.d.now c.if-wrong-c.true

pub overflow_add-n-3 : goal.overflow_add-n-3
overflow_add-n-3 c =
    let a = c.args in
    let k = core_passed a.wrong a.c.now a.d.now c.if-wrong-c.false in
    omega arith

pub lay-source-requires : goal.lay-source-requires
lay-source-requires c =
    let k = core_passed c.args.wrong c.args.c.now c.args.d.now c.if-wrong-c.false in
    record { first = c.requires.0; second = c.requires.1; third = k.third; fourth = k.fourth }

pub slice_bounds-source-end : goal.slice_bounds-source-end
slice_bounds-source-end c =
    let a = c.args in
    let k = core_passed a.wrong a.c.now a.d.now c.if-wrong-c.false in
    omega arith

pub slice_bounds-write-end : goal.slice_bounds-write-end
slice_bounds-write-end c =
    let a = c.args in
    let k = core_passed a.wrong a.c.now a.d.now c.if-wrong-c.false in
    sym (length-take-le _ _ (omega arith))

pub returns : goal.returns
returns c =
    let a = c.args in
    core_written a.packet (core_passed a.wrong a.c.now a.d.now c.if-wrong-c.false).right c.lay-source.ensures
    c.write.ensures
