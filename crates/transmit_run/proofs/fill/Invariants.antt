-- So many reads led here.
use Rattle.window.specs.Turns.{Made}
use Rattle.transmit_run.specs.Filled.{stand, going_at, Brings}
use Rattle.transmit_run.proofs.fill.Given as goal

abbrev pub invariant-loop-made : goal.invariant-loop-made
invariant-loop-made l = Made going_at Brings (stand l.initial.state l.initial.script) l.made (stand l.state l.script)
