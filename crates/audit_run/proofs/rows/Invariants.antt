-- So many turns led here.
use Rattle.session.specs.Lent.{lent}
use Rattle.window.specs.Turns.{Made}
use Rattle.audit_run.specs.Loop.{going_at, TurnedAt, place}
use Rattle.audit_run.proofs.rows.Given as goal

abbrev pub invariant-loop-made : goal.invariant-loop-made
invariant-loop-made l =
    let i = l.initial in
    Made going_at TurnedAt (place i.state i.input i.kept (lent i.octets i.lengths i.firsts) i.buffer) l.made
    (place l.state l.input l.kept (lent l.octets l.lengths l.firsts) l.buffer)
