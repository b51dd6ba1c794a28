use Rattle.std.proofs.Common.{rules, arith}
use Rattle.listing_lines.specs.Text.{bad_recording}
use Rattle.listing_lines.proofs.Lines.{none-put, some-room, words_put}
use Rattle.listing_lines.proofs.bad_line.Goals as goal

pub returns-then-no_room : goal.returns-then-no_room
returns-then-no_room c = none-put _ _ c.no_room.ensures c.if-no_room.true

pub overflow_add-result : goal.overflow_add-result
overflow_add-result c = omega (arith, some-room _ _ c.no_room.ensures c.if-no_room.false)

pub returns : goal.returns
returns c = words_put _ _ c.no_room.ensures bad_recording c.if-no_room.false (search rules) c.put.ensures
