-- `picture_images::lay` meets its contract.
use Rattle.picture_images.proofs.Naming.{laid-first}
use Rattle.picture_images.proofs.lay.Goals as goal

pub returns : goal.returns
returns c = laid-first c.args.text.now c.requires c.put.ensures
