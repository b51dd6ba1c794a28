-- `wrong` meets its contract.
use Rattle.inputs.proofs.Words.{wrong-told}
use Rattle.inputs.proofs.wrong.Goals as goal

pub returns : goal.returns
returns c = wrong-told _ _ c.same-kiss.ensures c.same-bits.ensures c.time-t.ensures
