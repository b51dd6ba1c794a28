use Rattle.std.proofs.Common.{refl}
use Rattle.report.proofs.Write.{four-laid}
use Rattle.report.proofs.writers.lay.Goals as goal

pub returns : goal.returns
returns c =
    let a = c.args in
    four-laid a.a.now a.b.now a.c.now a.d.now _ refl c.requires c.put.ensures c.put-2.ensures c.put-3.ensures c.put-4.ensures
