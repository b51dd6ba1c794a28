-- `audit_turns::heed` meets its contract.
use Rattle.audit_turns.proofs.Turning.{heeds-none, heeds-bad, heeds-frame, heeds-end}
use Rattle.audit_turns.proofs.heed.Goals as goal

pub returns-in-More : goal.returns-in-More
returns-in-More c =
    let a = c.args in
    heeds-none a.audit a.rows.now a.octets.now a.lengths.now a.pull c.in-More.in-More-own.keys1

pub returns-in-Answered : goal.returns-in-Answered
returns-in-Answered c =
    let a = c.args in
    heeds-frame a.audit a.rows.now a.octets.now a.lengths.now c.in-Answered.is c.frame-next.ensures

pub returns-in-Bad : goal.returns-in-Bad
returns-in-Bad c =
    let a = c.args in
    heeds-bad a.audit a.rows.now a.octets.now a.lengths.now a.pull c.in-Bad.in-Bad-own.keys3

pub returns-in-End : goal.returns-in-End
returns-in-End c =
    let a = c.args in
    heeds-end a.audit a.rows.now a.octets.now a.lengths.now c.in-End.is c.ended-next.ensures
