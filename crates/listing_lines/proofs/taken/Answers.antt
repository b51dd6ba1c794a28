use Rattle.listing_lines.specs.Text.{packet_line}
use Rattle.listing_lines.proofs.taken.Goals as goal

pub returns : goal.returns
unfolding packet_line
returns c = c.lettered.ensures
