use Rattle.listing_lines.proofs.Lines.{none-put, some-room, line-put, taken-line, turned-away-line}
use Rattle.listing_lines.proofs.packet_line.Goals as goal

pub returns-then-no_room : goal.returns-then-no_room
returns-then-no_room c = none-put _ _ c.no_room.ensures c.if-no_room.true

pub taken-requires : goal.taken-requires
taken-requires c = some-room _ _ c.no_room.ensures c.if-no_room.false

pub turned_away-requires : goal.turned_away-requires
turned_away-requires c = some-room _ _ c.no_room.ensures c.if-no_room.false

pub returns-in-Ok : goal.returns-in-Ok
returns-in-Ok c = line-put _ _ c.no_room.ensures c.if-no_room.false (taken-line _ _ _ c.in-Ok.is c.taken.ensures)

pub returns-in-Err : goal.returns-in-Err
returns-in-Err c = line-put _ _ c.no_room.ensures c.if-no_room.false (turned-away-line _ _ _ c.in-Err.is c.turned_away.ensures)
