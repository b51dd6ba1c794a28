use Rattle.listing_lines.proofs.Lines.{none-put, some-room, line-put, accepted-line, refused-line}
use Rattle.listing_lines.proofs.answer_line.Goals as goal

pub returns-then-no_room : goal.returns-then-no_room
returns-then-no_room c = none-put _ _ c.no_room.ensures c.if-no_room.true

pub accepted-requires : goal.accepted-requires
accepted-requires c = some-room _ _ c.no_room.ensures c.if-no_room.false

pub refused-requires : goal.refused-requires
refused-requires c = some-room _ _ c.no_room.ensures c.if-no_room.false

pub returns-in-Ok : goal.returns-in-Ok
returns-in-Ok c = line-put _ _ c.no_room.ensures c.if-no_room.false (accepted-line _ c.in-Ok.is c.accepted.ensures)

pub returns-in-Err : goal.returns-in-Err
returns-in-Err c = line-put _ _ c.no_room.ensures c.if-no_room.false (refused-line _ c.in-Err.is c.refused.ensures)
