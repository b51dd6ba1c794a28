use Rattle.std.proofs.Common.{rules}
use Rattle.export_kiss_run.proofs.Turning.{opened, handed-on, few-octets, in_order, nothing-more, nothing_yet}
use Rattle.export_kiss_run.proofs.section.Goals as goal

pub overflow_sub-n : goal.overflow_sub-n
overflow_sub-n c = let a = c.args in in_order a.both a.t a.frames a.hand.now c.in-Here.is c.requires.sound

pub hand_on-led-requires : goal.hand_on-led-requires
hand_on-led-requires c =
    let a = c.args in
    record {
      short = few-octets a.both a.t a.frames a.hand.now c.in-Here.is c.requires.sound c.part.ensures;
      room = c.requires.room;
    }

pub returns-in-Opened : goal.returns-in-Opened
returns-in-Opened c =
    let a = c.args in
    opened a.both a.t a.frames a.hand.now a.out.now c.in-Opened.is c.requires.sound c.requires.room

pub returns-in-Here : goal.returns-in-Here
returns-in-Here c =
    let a = c.args in
    handed-on a.both a.t a.frames a.hand.now c.in-Here.is c.requires.sound c.part.ensures c.hand_on-led.ensures
    c.wrapping_add_u64.ensures.value c.first.ensures

pub returns-in-Bad : goal.returns-in-Bad
returns-in-Bad c =
    let a = c.args in
    nothing-more a.both a.t a.frames a.hand.now a.out.now a.taken (search rules)

pub returns-in-Nothing : goal.returns-in-Nothing
returns-in-Nothing c =
    let a = c.args in
    nothing_yet a.both a.t a.frames a.hand.now a.out.now a.taken (search rules)
