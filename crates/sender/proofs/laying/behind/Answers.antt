use Rattle.std.proofs.Common.{arith, rules}
use Rattle.sender.proofs.Starts.{begun-inside, begun-fits, begun-next, found_first}
use Rattle.sender.proofs.laying.behind.Goals as goal

pub bounds-lengths-next : goal.bounds-lengths-next
bounds-lengths-next c = begun-inside c.loop-next.invariant c.requires.within (search rules)

pub overflow_add-next : goal.overflow_add-next
overflow_add-next c = record { fits = omega (arith, c.from.ensures, begun-fits c.loop-next.invariant c.requires.within (search rules)) }

pub loop-next-smaller : goal.loop-next-smaller
loop-next-smaller c = omega (arith, begun-inside c.loop-next.invariant c.requires.within (search rules))

pub loop-next-preserved : goal.loop-next-preserved
loop-next-preserved c = rw c.from.ensures (begun-next c.loop-next.invariant c.requires.within (search rules))

pub returns : goal.returns
returns c = found_first c.loop-next.invariant (search rules)
