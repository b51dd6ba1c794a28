-- `window::refill` meets its contract.
use Rattle.std.proofs.Common.{◌+◌, ◌<◌, ◌≤◌, length, arith, length-drop}
use Rattle.window.proofs.Hands.{hand-short, refills}
use Rattle.window.proofs.Moves.{came-inside}
use Rattle.window.proofs.refill.Goals as goal

pub returns : goal.returns
returns c =
    let a = c.args in
    let h = c.hand-have in
    let new = c.read_some-got.new.input in
    let room : length h.result.now < length new =
    omega (arith, hand-short a.input.now a.at a.end h.ensures, length-drop a.at a.input.now, c.shift.auto, c.read_some-got.auto, c.if-have-input.false) in
    let inside : length h.result.now + c.unwrap_or-came.result ≤ length new =
    rw c.unwrap_or-came.ensures (came-inside c.read_some-got.result (length h.result.now) (length new) (omega arith) c.read_some-got.ensures.came_in_bounds) in
    refills a.input.now a.at a.end h.ensures _ c.shift.ensures c.is_none.result c.read_some-got.ensures.input_unchanged inside room
