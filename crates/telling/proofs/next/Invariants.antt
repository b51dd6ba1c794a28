-- There were none of the numbers from one on before i.
use Rattle.std.proofs.Common.{◌≡◌, ◌≤◌, max, length}
use Rattle.telling.specs.Counts.{next_of}
use Rattle.telling.proofs.next.Given as goal

abbrev pub invariant-loop-i : goal.invariant-loop-i
invariant-loop-i l = (next_of l.counts l.from ≡ next_of l.counts l.i) × (l.i ≤ max l.from (length l.counts))
