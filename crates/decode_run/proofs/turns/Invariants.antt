-- So many turns led here, and none of them was the last.
use Rattle.std.proofs.Common.{◌≡◌}
use Rattle.window.specs.Turns.{most}
use Rattle.decode_run.proofs.Whole.{Gone}
use Rattle.decode_run.proofs.turns.Given as goal

abbrev pub invariant-loop-i : goal.invariant-loop-i
invariant-loop-i l = (l.made ≡ most) × Gone l.initial.state l.initial.input l.initial.kept l.i l.state l.input l.kept
