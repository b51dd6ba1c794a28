-- `audit_rows::Audit::frame` meets its contract.
use Rattle.audit_rows.proofs.Reading.{goes_none}
use Rattle.audit_rows.proofs.Frames.{answered}
use Rattle.audit_rows.proofs.Audit.frame.Goals as goal

pub returns-in-Err : goal.returns-in-Err
returns-in-Err c =
    let a = c.args in
    answered a.self a.rows.now a.octets.now a.lengths.now c.in-Err.is (goes_none _ _)

pub returns-in-Ok : goal.returns-in-Ok
returns-in-Ok c =
    let a = c.args in
    answered a.self a.rows.now a.octets.now a.lengths.now c.in-Ok.is c.packets.ensures
