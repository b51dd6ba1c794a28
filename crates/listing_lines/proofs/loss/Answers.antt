use Rattle.listing_lines.proofs.Lines.{unknown-put, known-put}
use Rattle.listing_lines.proofs.loss.Goals as goal

pub returns-in-None : goal.returns-in-None
returns-in-None c = unknown-put c.in-None.is c.mark.ensures

pub returns-in-Some : goal.returns-in-Some
returns-in-Some c = known-put c.in-Some.is c.number.ensures
