-- The octet stands in none of the places before this index.
use mathlib.Core.Path.{◌≡◌}
use lib.ListN.{drop}
use Rattle.layouts.specs.Reason.{in_line}
use Rattle.layouts.proofs.wrong.in_line.Given as goal

abbrev pub invariant-loop-i : goal.invariant-loop-i
invariant-loop-i l = in_line l.octet (drop l.at l.text) ≡ in_line l.octet (drop l.i l.text)
