-- `feed::Feed::pull` meets its contract.
use Rattle.std.proofs.Common.{refl, arith}
use Rattle.feed.proofs.Pulling.{used-left, pulls}
use Rattle.feed.proofs.Feed.pull.Goals as goal

pub overflow_add-from : goal.overflow_add-from
overflow_add-from c =
    let a = c.args in
    omega (
      arith,
      used-left a.self a.input.now a.receiver a.kept.now c.hand-hand.ensures c.next-received.ensures,
    )

pub returns : goal.returns
returns c =
    let a = c.args in
    pulls a.self a.input.now a.receiver a.kept.now c.hand-hand.ensures c.next-received.ensures refl
    c.tell-told.ensures
