use Rattle.frame.proofs.Laying.{steps}
use Rattle.frame.proofs.writing.lay.Goals as goal

pub returns : goal.returns
returns c =
    steps _ _ _ _ _ c.requires.room c.requires.lent c.status.ensures c.lay_front.ensures c.put.ensures
    c.put-2.ensures c.put-3.ensures c.seal.ensures
