-- `picture_images::list` meets its contract.
use native.Mathlib.Omega.{arith}
use Rattle.picture_images.specs.Noted.{images_in}
use Rattle.picture_images.proofs.Naming.{few-listed, many-listed}
use Rattle.picture_images.proofs.list.Goals as goal

pub names-requires : goal.names-requires
names-requires c =
    record { held = omega (arith, c.requires.all); few = omega arith; room = omega (arith, c.requires.room, c.if-n-le-NAMED.true) }

pub returns-then-n-le-NAMED : goal.returns-then-n-le-NAMED
returns-then-n-le-NAMED c =
    few-listed (images_in c.args.images.now) c.requires.all c.if-n-le-NAMED.true c.names.ensures

pub names-next-requires : goal.names-next-requires
names-next-requires c =
    record { held = omega (arith, c.requires.all, c.if-n-le-NAMED.false); few = omega arith; room = omega (arith, c.requires.room) }

pub told-requires : goal.told-requires
told-requires c =
    let n = c.names-next in
    omega (arith, c.requires.room, n.auto.out, n.ensures.near)

pub returns : goal.returns
returns c =
    many-listed (images_in c.args.images.now) c.requires.all c.if-n-le-NAMED.false (omega (arith, c.requires.room)) c.names-next.ensures
    c.told.ensures
