-- So many turns led here.
use Rattle.export_kiss_run.proofs.Whole.{Gone}
use Rattle.export_kiss_run.proofs.turns.Given as goal

abbrev pub invariant-loop-made : goal.invariant-loop-made
invariant-loop-made l = Gone l.both l.initial.state l.initial.input l.made l.state l.input
