-- `audit_turns::State::fresh` meets its contract.
use Rattle.audit_turns.proofs.Turning.{at-start}
use Rattle.audit_turns.proofs.State.fresh.Goals as goal

pub returns : goal.returns
returns c =
    let a = c.args in
    at-start a.receiver a.check c.fresh.ensures c.fresh-2.ensures c.none.ensures
