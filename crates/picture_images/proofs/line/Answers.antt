-- `picture_images::line` meets its contract.
use native.Mathlib.Omega.{arith}
use Rattle.decimal.proofs.Laid.{puts_none}
use Rattle.picture_images.specs.Noted.{images_in}
use Rattle.picture_images.proofs.Naming.{none_told, some-told}
use Rattle.picture_images.proofs.line.Goals as goal

pub returns-then-out-lt-LINE : goal.returns-then-out-lt-LINE
returns-then-out-lt-LINE c = puts_none (omega (arith, c.if-out-lt-LINE.true))

pub lay-requires : goal.lay-requires
lay-requires c =
    omega (arith, c.if-out-lt-LINE.false)

pub returns-then-n-eq0 : goal.returns-then-n-eq0
returns-then-n-eq0 c =
    let a = c.args in
    none_told a.wanted (images_in a.images.now) c.if-out-lt-LINE.false c.known-n.ensures c.if-n-eq0.true
    c.lay.ensures

pub head-next-requires : goal.head-next-requires
head-next-requires c =
    omega (arith, c.if-out-lt-LINE.false)

pub list-requires : goal.list-requires
list-requires c =
    let h = c.head-next in
    record { all = c.known-n.ensures; room = omega (arith, c.if-out-lt-LINE.false, h.auto.out, h.ensures.near) }

pub returns : goal.returns
returns c =
    let a = c.args in
    some-told a.wanted (images_in a.images.now) c.if-out-lt-LINE.false c.known-n.ensures c.if-n-eq0.false c.head-next.ensures
    c.list.ensures
