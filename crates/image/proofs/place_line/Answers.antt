use Rattle.std.proofs.Common.{rules}
use Rattle.image.proofs.Brought.{line-held, line-placed}
use Rattle.image.proofs.place_line.Goals as goal

pub returns-then-held_otherwise : goal.returns-then-held_otherwise
returns-then-held_otherwise c = search (line-held, rules)

pub returns : goal.returns
returns c = line-placed _ _ c.held_otherwise.ensures c.if-held_otherwise.false c.lay.ensures
