use Rattle.std.proofs.Common.{arith, refl}
use Rattle.rawbits_writer.proofs.Writing.{drains_first, drains_here, drains_next, drains_end}
use Rattle.rawbits_writer.proofs.laying.Pen.drain.Goals as goal

pub loop-self-init : goal.loop-self-init
loop-self-init c = record { drains = drains_first _ _ _ c.requires; held = refl; ones = refl }

pub loop-self-preserved : goal.loop-self-preserved
loop-self-preserved c =
    let i = c.loop-self.invariant in
    record { drains = drains_next i.drains (omega arith) (drains_here i.drains c.requires (omega arith)); held = i.held; ones = i.ones }

pub returns : goal.returns
returns c =
    let i = c.loop-self.invariant in
    rw i.ones (drains_end i.drains (omega arith) i.held)
