-- So many reads led here.
use Rattle.window.specs.Turns.{Made}
use Rattle.audit_form.specs.Reads.{going_at, GrowsAt, place}
use Rattle.audit_form.proofs.form.Given as goal

abbrev pub invariant-loop-made : goal.invariant-loop-made
invariant-loop-made l = Made going_at GrowsAt (place l.initial.reading l.initial.buffer) l.made (place l.reading l.buffer)
