-- `empty` is the frame writer's answer for one empty frame.
use Rattle.std.proofs.lemmas.Result.{err_from_is_err_and}
use Rattle.sender.proofs.One.{emptied_sent, emptied_refused}
use Rattle.sender.proofs.empty.Goals as goal

pub returns-in_err-octets : goal.returns-in_err-octets
returns-in_err-octets c =
    let a = c.args in
    let p = err_from_is_err_and c.from_residual.result c.from_residual.ensures.1 in
    rw (p.1, p.2)
    (emptied_refused a.common a.master.0 a.count.0 a.time.now a.out.now c.frame-f.ensures c.write.ensures c.in_err-octets.was)

pub returns : goal.returns
returns c =
    let a = c.args in
    emptied_sent a.common a.master.0 a.count.0 a.time.now a.out.now c.frame-f.ensures c.write.ensures
    c.in_ok-octets.was c.next_count.ensures c.next_count-2.ensures
