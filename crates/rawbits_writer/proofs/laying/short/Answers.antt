use Rattle.std.proofs.Common.{arith, rules}
use Rattle.rawbits_writer.proofs.Counting.{no_room, counting_first, counting_fits, counting_short, counting_few, counting_over, counting_next, counting_end}
use Rattle.rawbits_writer.proofs.laying.short.Goals as goal

pub returns-then-room-eq0 : goal.returns-then-room-eq0
returns-then-room-eq0 c = no_room _ c.if-room-eq0.true

pub loop-length-init : goal.loop-length-init
loop-length-init c = counting_first _ _ c.if-room-eq0.false

pub overflow_add-next : goal.overflow_add-next
overflow_add-next c = record { fits = omega (arith, c.from.ensures, counting_fits c.loop-length.invariant c.requires (omega arith)) }

pub slice_bounds-measured-end : goal.slice_bounds-measured-end
slice_bounds-measured-end c =
    let e = c.from.ensures in
    let h = counting_fits c.loop-length.invariant c.requires (omega arith) in search rules

pub measured-requires : goal.measured-requires
measured-requires c = rw c.from.ensures (counting_short c.loop-length.invariant (omega arith) c.requires)

pub overflow_add-bits : goal.overflow_add-bits
overflow_add-bits c =
    let t = c.loop-length.invariant in
    record { fits = omega (arith, t.few, counting_few t (omega arith) (rw c.from.ensures at c.measured.ensures) c.requires) }

pub overflow_add-bits-in-loop-length : goal.overflow_add-bits-in-loop-length
overflow_add-bits-in-loop-length c =
    let t = c.loop-length.invariant in
    record { fits = omega (arith, t.few, counting_few t (omega arith) (rw c.from.ensures at c.measured.ensures) c.requires) }

pub returns-then-left-whole : goal.returns-then-left-whole
returns-then-left-whole c =
    counting_over c.loop-length.invariant (omega arith) (rw c.from.ensures at c.measured.ensures) c.if-left-whole.true

pub loop-length-preserved : goal.loop-length-preserved
loop-length-preserved c =
    rw c.from.ensures
    (counting_next c.loop-length.invariant (omega arith) (rw c.from.ensures at c.measured.ensures) c.if-left-whole.false)

pub returns : goal.returns
returns c = counting_end c.loop-length.invariant (omega arith)
