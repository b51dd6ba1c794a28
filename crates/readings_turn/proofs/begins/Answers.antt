-- `begins` meets its contract.
use Rattle.readings_turn.proofs.Turning.{begun_as}
use borrow.Author.Rules.{rules}
use Rattle.readings_turn.proofs.begins.Goals as goal

pub returns : goal.returns
returns c =
    let a = c.args in
    begun_as a.fresh a.first c.fresh.ensures c.none.ensures c.failed.ensures
