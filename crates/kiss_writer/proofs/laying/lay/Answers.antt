use Rattle.std.proofs.Common.{arith, rules}
use Rattle.kiss_writer.proofs.Blocks.{fits, long, writing-first, writing-room, writing-next, writing-end}
use Rattle.kiss_writer.proofs.laying.lay.Goals as goal

pub loop-length-init : goal.loop-length-init
loop-length-init c = writing-first c.requires

pub overflow_add-next : goal.overflow_add-next
overflow_add-next c = record { fits = omega (arith, c.from.ensures, fits c.loop-length.invariant.standing (omega arith)) }

pub overflow_sub-next : goal.overflow_sub-next
overflow_sub-next c = omega (arith, c.from.ensures, long c.loop-length.invariant.standing (omega arith))

pub slice_bounds-lay_block-count : goal.slice_bounds-lay_block-count
slice_bounds-lay_block-count c = omega (arith, c.from.ensures, long c.loop-length.invariant.standing (omega arith))

pub slice_bounds-lay_block-start : goal.slice_bounds-lay_block-start
slice_bounds-lay_block-start c =
    let e = c.from.ensures in
    let h = fits c.loop-length.invariant.standing (omega arith) in
    let m = long c.loop-length.invariant.standing (omega arith) in search rules

pub slice_bounds-lay_block-end : goal.slice_bounds-lay_block-end
slice_bounds-lay_block-end c =
    let e = c.from.ensures in
    let h = fits c.loop-length.invariant.standing (omega arith) in
    let m = long c.loop-length.invariant.standing (omega arith) in search rules

pub lay_block-end-requires : goal.lay_block-end-requires
lay_block-end-requires c = rw c.from.ensures (writing-room c.loop-length.invariant (omega arith))

pub loop-length-preserved : goal.loop-length-preserved
loop-length-preserved c =
    rw c.from.ensures
    (writing-next c.loop-length.invariant (omega arith)
    (rw c.from.ensures at c.lay_block-end.ensures.value, rw c.from.ensures at c.lay_block-end.ensures.out_after))

pub returns-clause-value : goal.returns-clause-value
returns-clause-value c =
    let a = c.args in
    (writing-end a.octets.now a.lengths.now a.out.now c.loop-length.invariant (omega arith)).0

pub returns-clause-out_after : goal.returns-clause-out_after
returns-clause-out_after c =
    let a = c.args in
    (writing-end a.octets.now a.lengths.now a.out.now c.loop-length.invariant (omega arith)).1
