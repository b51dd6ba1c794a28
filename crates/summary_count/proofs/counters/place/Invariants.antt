-- `summary_count::counters::place` meets its contract.
use Prim.Native.Nat.{◌+◌}
use mathlib.Core.Path.{◌≡◌}
use lib.ListN.{drop}
use Rattle.summary_count.specs.Count.{place_of}
use Rattle.summary_count.proofs.counters.place.Given as goal

abbrev pub invariant-loop-i : goal.invariant-loop-i
invariant-loop-i l = place_of l.key l.keys l.many ≡ l.i + place_of l.key (drop l.i l.keys) (drop l.i l.many)
