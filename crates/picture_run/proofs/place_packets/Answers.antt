-- `picture_run::place_packets` meets its contract.
use Rattle.picture_frame.specs.Received.{received}
use Rattle.picture_run.proofs.Turning.{none-placed, refused-placed, some-placed}
use borrow.Enum.Refused.{opened}
use Rattle.picture_run.proofs.place_packets.Goals as goal

pub returns-in_default : goal.returns-in_default
returns-in_default c =
    let a = c.args in
    let r = received a.pixels.now a.numbers.now a.packets.now a.images.now in
    none-placed a.wanted a.octets.now a.lengths.now r a.pull (opened c.in_default.in_default-own.keys2)

pub returns-in_default-answer : goal.returns-in_default-answer
returns-in_default-answer c =
    let a = c.args in
    let r = received a.pixels.now a.numbers.now a.packets.now a.images.now in
    refused-placed a.wanted a.octets.now a.lengths.now r c.in-Answered.is c.in_default-answer.is

pub returns : goal.returns
returns c =
    let a = c.args in
    let r = received a.pixels.now a.numbers.now a.packets.now a.images.now in
    some-placed a.wanted a.octets.now a.lengths.now r c.in-Answered.is c.in-Ok.is c.place_all.ensures
