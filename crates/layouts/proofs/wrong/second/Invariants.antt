-- No space stands before this index.
use Prim.Native.Nat.{◌+◌}
use mathlib.Core.Path.{◌≡◌}
use lib.ListN.{drop}
use Rattle.layouts.specs.Reason.{to_second}
use Rattle.layouts.proofs.wrong.second.Given as goal

abbrev pub invariant-loop-i : goal.invariant-loop-i
invariant-loop-i l = l.at + to_second (drop l.at l.text) ≡ l.i + to_second (drop l.i l.text)
