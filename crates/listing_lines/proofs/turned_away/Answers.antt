use Rattle.listing_lines.specs.Text.{turned_away_line}
use Rattle.listing_lines.proofs.turned_away.Goals as goal

pub returns : goal.returns
unfolding turned_away_line
returns c = c.lettered.ensures
