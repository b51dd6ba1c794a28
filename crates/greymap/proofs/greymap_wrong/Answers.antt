-- `greymap::greymap_wrong` meets its contract.
use Rattle.greymap.proofs.greymap_wrong.Goals as goal

pub returns : goal.returns
returns c = simp (c.same-known.ensures, c.part.ensures)
