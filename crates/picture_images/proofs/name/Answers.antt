-- `picture_images::name` meets its contract.
use native.Mathlib.Omega.{arith}
use Rattle.picture_images.proofs.Naming.{last_name, next-to-last, earlier-name}
use Rattle.picture_images.proofs.name.Goals as goal

pub told-requires : goal.told-requires
told-requires c =
    omega (arith, c.requires)

pub returns-then-behind-eq0 : goal.returns-then-behind-eq0
returns-then-behind-eq0 c =
    last_name c.args.image c.args.behind c.if-behind-eq0.true c.told.ensures

pub told-requires-then-behind-eq1 : goal.told-requires-then-behind-eq1
told-requires-then-behind-eq1 c =
    omega (arith, c.requires)

pub returns-then-behind-eq1 : goal.returns-then-behind-eq1
returns-then-behind-eq1 c =
    next-to-last c.args.image c.args.behind c.if-behind-eq0.false c.if-behind-eq1.true c.told-then-behind-eq1.ensures

pub told-requires-2 : goal.told-requires-2
told-requires-2 c =
    omega (arith, c.requires)

pub returns : goal.returns
returns c =
    earlier-name c.args.image c.args.behind c.if-behind-eq0.false c.if-behind-eq1.false c.told-2.ensures
