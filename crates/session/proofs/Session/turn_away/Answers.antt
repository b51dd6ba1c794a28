-- `Session::turn_away` is the gate, and then the refusal that is offered.
use Rattle.std.proofs.Common.{rules}
use Rattle.session.specs.Lent.{lent}
use Rattle.session.specs.Step.{counted, turned_away}
use Rattle.session.proofs.Admitting.{bars, opens, passes, gives-plain}
use Rattle.session.proofs.Session.turn_away.Goals as goal

pub returns-in-Some : goal.returns-in-Some
unfolding turned_away
returns-in-Some c =
    let a = c.args in
    bars a.self (lent a.octets.now a.lengths.now a.firsts.now) c.barred.ensures c.in-Some.is _

pub overflow_add-self : goal.overflow_add-self
overflow_add-self c =
    let a = c.args in
    let n = (opens a.self (lent a.octets.now a.lengths.now a.firsts.now) c.barred.ensures c.in-None.is).numbers in
    search rules

pub returns-in-None : goal.returns-in-None
unfolding turned_away
returns-in-None c =
    let a = c.args in
    let l = lent a.octets.now a.lengths.now a.firsts.now in
    passes a.self l c.barred.ensures c.in-None.is _ _ _ (gives-plain (counted a.self) a.own c.plain.ensures l)
