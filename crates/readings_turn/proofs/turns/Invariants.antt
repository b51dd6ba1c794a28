-- So many turns led here.
use Rattle.session.specs.Lent.{lent}
use Rattle.readings_frame.specs.Readings.{layouts_of}
use Rattle.readings_turn.proofs.Loop.{Turning}
use Rattle.readings_turn.proofs.turns.Given as goal

abbrev pub invariant-loop-made : goal.invariant-loop-made
invariant-loop-made l =
    let i = l.initial in
    Turning (layouts_of l.text l.apids l.sids l.starts l.n l.codes l.froms l.tos) i.standing i.input i.kept
    (lent i.octets i.lengths i.firsts) i.out i.counts l.made l.standing l.input l.kept (lent l.octets l.lengths l.firsts) l.out l.counts
