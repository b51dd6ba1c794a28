use Rattle.std.proofs.Common.{arith, rules}
use Rattle.rawbits_writer.proofs.Laid.{laying_first, all_room, laying_fits, laying_flag, laying_body, laying_next, last-flag, last_fill, laying_done, laid}
use Rattle.rawbits_writer.proofs.laying.lay.Goals as goal

pub loop-length-init : goal.loop-length-init
loop-length-init c = laying_first _ _ c.new-pen.ensures

pub overflow_add-next : goal.overflow_add-next
overflow_add-next c = record { fits = omega (arith, c.from.ensures, laying_fits c.loop-length.invariant c.requires (omega arith)) }

pub flag-requires : goal.flag-requires
flag-requires c = laying_flag c.loop-length.invariant (omega arith) (all_room _ _ c.new-pen.ensures c.requires)

pub slice_bounds-body-end : goal.slice_bounds-body-end
slice_bounds-body-end c =
    let e = c.from.ensures in
    let h = laying_fits c.loop-length.invariant c.requires (omega arith) in search rules

pub body-pen-requires : goal.body-pen-requires
body-pen-requires c =
    rw c.from.ensures
    (laying_body c.loop-length.invariant (omega arith) c.flag.ensures (search rules) (all_room _ _ c.new-pen.ensures c.requires))

pub loop-length-preserved : goal.loop-length-preserved
loop-length-preserved c =
    rw c.from.ensures
    (laying_next c.loop-length.invariant (omega arith) c.flag.ensures (search rules) (rw c.from.ensures at c.body-pen.ensures)
    (search rules))

pub flag-requires-2 : goal.flag-requires-2
flag-requires-2 c = last-flag c.loop-length.invariant (omega arith) (all_room _ _ c.new-pen.ensures c.requires)

pub fill-requires : goal.fill-requires
fill-requires c =
    last_fill c.loop-length.invariant (omega arith) c.flag-2.ensures (search rules) (all_room _ _ c.new-pen.ensures c.requires)

pub returns-clause-value : goal.returns-clause-value
returns-clause-value c =
    let g = laying_done c.loop-length.invariant (omega arith) c.flag-2.ensures (search rules) c.fill.ensures (search rules) in
    (laid _ _ c.new-pen.ensures c.requires g (λ j. (c.type_inv.out j).fits)).0

pub returns-clause-out_after : goal.returns-clause-out_after
returns-clause-out_after c =
    let g = laying_done c.loop-length.invariant (omega arith) c.flag-2.ensures (search rules) c.fill.ensures (search rules) in
    (laid _ _ c.new-pen.ensures c.requires g (λ j. (c.type_inv.out j).fits)).1
