-- `picture_images::head` meets its contract.
use native.Mathlib.Omega.{arith}
use Rattle.picture_images.proofs.Naming.{one-headed, many-headed}
use Rattle.picture_images.proofs.head.Goals as goal

pub lay-at-requires : goal.lay-at-requires
lay-at-requires c =
    omega (arith, c.requires)

pub told-requires : goal.told-requires
told-requires c =
    omega (arith, c.requires, c.lay-at.auto.out, c.lay-at.ensures.near)

pub returns-then-n-eq1 : goal.returns-then-n-eq1
returns-then-n-eq1 c =
    let a = c.args in
    one-headed a.wanted a.n c.lay-at.ensures c.if-n-eq1.true c.told.ensures

pub told-requires-2 : goal.told-requires-2
told-requires-2 c =
    omega (arith, c.requires, c.lay-at.auto.out, c.lay-at.ensures.near)

pub returns : goal.returns
returns c =
    let a = c.args in
    many-headed a.wanted a.n c.lay-at.ensures c.if-n-eq1.false c.told-2.ensures
