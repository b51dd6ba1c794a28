-- `Channel::holding` puts two parts into zeros.
use Rattle.session.proofs.Keeping.{keeps}
use Rattle.session.proofs.Channel.holding.Goals as goal

pub returns : goal.returns
returns c =
    let a = c.args in
    keeps a.count a.instep a.first a.front.now a.back.now c.requires c.put.ensures c.put-2.ensures c.begun.ensures
