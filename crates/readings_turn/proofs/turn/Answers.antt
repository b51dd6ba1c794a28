-- `turn` meets its contract.
use Rattle.readings_frame.specs.Readings.{layouts_of}
use Rattle.readings_turn.proofs.Turning.{turned}
use borrow.Author.Rules.{rules}
use Rattle.readings_turn.proofs.turn.Goals as goal

pub returns : goal.returns
returns c =
    let a = c.args in
    turned (layouts_of a.text.now a.apids.now a.sids.now a.starts.now a.n a.codes.now a.froms.now
    a.tos.now) c.pull-pulled.ensures
    c.heed-heard.ensures
    c.heed-heard.auto.out c.hand-hand.ensures c.before_a_read-after.ensures c.is_bad.ensures
    c.may_go_on.ensures
