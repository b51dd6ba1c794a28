use Rattle.std.proofs.Common.{arith, rules}
use Rattle.sender.proofs.Refusals.{seen_fits, seen_next}
use Rattle.sender.proofs.refusing.packets_wrong.Goals as goal

pub overflow_add-end : goal.overflow_add-end
overflow_add-end c = record { fits = omega (arith, c.from.ensures, seen_fits c.loop-length.invariant c.requires (omega arith)) }

pub slice_bounds-turned_away-end : goal.slice_bounds-turned_away-end
slice_bounds-turned_away-end c =
    let h = seen_fits c.loop-length.invariant c.requires (omega arith) in
    let e = c.from.ensures in search rules

pub loop-length-preserved : goal.loop-length-preserved
loop-length-preserved c =
    rw c.from.ensures (seen_next c.loop-length.invariant (omega arith) (rw c.from.ensures at c.turned_away.ensures) c.if-turned_away.false)
