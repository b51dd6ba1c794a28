use Rattle.std.proofs.Common.{arith}
use lib.ListN.{length-set}
use Rattle.kiss_writer.proofs.Escaping.{block_begins, block_first, block_room, block_room_end, block_mark, block_escape}
use Rattle.kiss_writer.proofs.Escaping.{block_itself, block_end}
use Rattle.kiss_writer.proofs.laying.lay_block.Goals.{then-x, else-x+then-x-2, else-x+else-x-2}
use Rattle.kiss_writer.proofs.laying.lay_block.Goals as goal

pub bounds-out-at : goal.bounds-out-at
bounds-out-at c = omega (arith, block_begins c.requires (omega arith))

pub overflow_add-n : goal.overflow_add-n
overflow_add-n c = record { fits = omega (arith, block_begins c.requires (omega arith)) }

pub loop-x-init : goal.loop-x-init
loop-x-init c = block_first c.requires (omega arith)

pub bounds-out-n : goal.bounds-out-n
bounds-out-n c = omega (arith, block_room c.loop-x.invariant (omega arith))

pub overflow_add-out : goal.overflow_add-out
overflow_add-out c = record { fits = omega (arith, block_room c.loop-x.invariant (omega arith)) }

pub bounds-out-n-then-x : goal.bounds-out-n-then-x
bounds-out-n-then-x c = simp length-set (omega (arith, block_room c.loop-x.invariant (omega arith)))

pub overflow_add-n-then-x : goal.overflow_add-n-then-x
overflow_add-n-then-x c = record { fits = omega (arith, block_room c.loop-x.invariant (omega arith)) }

pub bounds-out-n-then-x-2 : goal.bounds-out-n-then-x-2
bounds-out-n-then-x-2 c = omega (arith, block_room c.loop-x.invariant (omega arith))

pub overflow_add-out-then-x-2 : goal.overflow_add-out-then-x-2
overflow_add-out-then-x-2 c = record { fits = omega (arith, block_room c.loop-x.invariant (omega arith)) }

pub bounds-out-n-then-x-2-2 : goal.bounds-out-n-then-x-2-2
bounds-out-n-then-x-2-2 c = simp length-set (omega (arith, block_room c.loop-x.invariant (omega arith)))

pub overflow_add-n-then-x-2 : goal.overflow_add-n-then-x-2
overflow_add-n-then-x-2 c = record { fits = omega (arith, block_room c.loop-x.invariant (omega arith)) }

pub bounds-out-n-else-x-2 : goal.bounds-out-n-else-x-2
bounds-out-n-else-x-2 c = omega (arith, block_room c.loop-x.invariant (omega arith))

pub overflow_add-n-else-x-2 : goal.overflow_add-n-else-x-2
overflow_add-n-else-x-2 c = record { fits = omega (arith, block_room c.loop-x.invariant (omega arith)) }

pub loop-x-preserved : goal.loop-x-preserved
loop-x-preserved c =
    let t = c.loop-x.invariant in
    elim c.if-x.branch [
      | then-x w ↦ rw (w.out-is, w.n-is) (block_mark t (omega arith) w.if-x.true)
      | else-x+then-x-2 w ↦ rw (w.out-is, w.n-is) (block_escape t (omega arith) w.if-x.false w.if-x-2.true)
      | else-x+else-x-2 w ↦ rw (w.out-is, w.n-is) (block_itself t (omega arith) w.if-x.false w.if-x-2.false)
    ]

pub bounds-out-n-2 : goal.bounds-out-n-2
bounds-out-n-2 c = omega (arith, block_room_end c.loop-x.invariant)

pub overflow_add-result : goal.overflow_add-result
overflow_add-result c = record { fits = omega (arith, block_room_end c.loop-x.invariant) }

pub returns-clause-value : goal.returns-clause-value
returns-clause-value c = (block_end _ _ _ c.loop-x.invariant (omega arith)).0

pub returns-clause-out_after : goal.returns-clause-out_after
returns-clause-out_after c = (block_end _ _ _ c.loop-x.invariant (omega arith)).1
