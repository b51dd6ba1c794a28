-- `picture_frame::place` meets its contract.
use mathlib.Core.Path.{ap, ◌∙◌}
use Rattle.telling.specs.Counts.{counted}
use Rattle.picture_frame.specs.Received.{received, leaving}
use Rattle.picture_frame.proofs.Packets.{line-left, other-left, refusal-left}
use Rattle.picture_frame.proofs.place.Goals as goal

pub returns-in_default : goal.returns-in_default
unfolding leaving
returns-in_default c =
    let a = c.args in
    let r = received a.pixels.now a.lines.now a.refused.now a.images.now in
    line-left a.packet.now r c.place.ensures c.in_default.is

pub returns-in-ImageOther : goal.returns-in-ImageOther
unfolding leaving
returns-in-ImageOther c =
    let a = c.args in
    let r = received a.pixels.now a.lines.now a.refused.now a.images.now in
    other-left a.packet.now r c.place.ensures c.in-Err.is (c.count.ensures ∙ ap (counted a.refused.now) c.number.ensures) c.in-ImageOther.is
    c.image_in.ensures c.note.ensures

pub returns-in_default-reason : goal.returns-in_default-reason
unfolding leaving
returns-in_default-reason c =
    let a = c.args in
    let r = received a.pixels.now a.lines.now a.refused.now a.images.now in
    refusal-left a.packet.now r c.place.ensures c.in-Err.is (c.count.ensures ∙ ap (counted a.refused.now) c.number.ensures) c.in_default-reason.not-ImageOther
