-- `audit_rows::Audit::filled` meets its contract. In the loop a piece is read.
use Prim.Native.Nat.{◌-◌}
use mathlib.Core.Path.{◌≡◌}
use lib.ListN.{length}
use Rattle.audit_rows.specs.Goes.{hand_of}
use Rattle.audit_rows.proofs.Reading.{Filled}
use Rattle.audit_rows.proofs.Audit.filled.Given as goal

abbrev pub invariant-loop-here : goal.invariant-loop-here
invariant-loop-here l =
    (l.here ≡ length (hand_of l.audit l.rows)) × Filled l.initial.audit l.initial.rows l.audit l.rows

abbrev pub decreases-loop-here : goal.decreases-loop-here
decreases-loop-here l = 17 - l.here
