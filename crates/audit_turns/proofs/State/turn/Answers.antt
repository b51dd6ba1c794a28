-- `audit_turns::State::turn` meets its contract.
use Rattle.session.specs.Lent.{lent}
use Rattle.audit_turns.proofs.Turning.{turned}
use Rattle.audit_turns.proofs.State.turn.Goals as goal

pub returns : goal.returns
returns c =
    let a = c.args in
    let l = lent a.octets.now a.lengths.now a.firsts.now in
    let h = c.heed-heeded in
    turned a.self a.input.now a.kept.now l a.rows.now h.result c.pull-pulled.ensures h.ensures
