-- `picture_images::told` meets its contract.
use native.Mathlib.Omega.{arith}
use Rattle.picture_images.proofs.Naming.{told-near, told-laid}
use Rattle.picture_images.proofs.told.Goals as goal

pub overflow_add-result : goal.overflow_add-result
overflow_add-result c =
    let near = told-near c.args.n c.args.after (omega (arith, c.requires)) c.number-next.ensures in
    omega (arith, near, c.requires, c.ranges)

pub returns : goal.returns
returns c =
    let n = c.number-next in
    told-laid c.args.words.now c.args.n c.args.after c.requires n.auto.out n.ensures c.put.ensures
