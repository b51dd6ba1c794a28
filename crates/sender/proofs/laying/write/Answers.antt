use Rattle.std.proofs.Common.{ℕ, ◌+◌, refl, ap}
use Rattle.sender.proofs.One.{framing}
use Rattle.sender.proofs.laying.write.Goals as goal

pub returns : goal.returns
returns c =
    let a = c.args in
    framing a.common a.master.0 a.count.0 a.place a.at a.n a.time.now a.packets.now a.out.now c.requires
    c.frame-f.ensures refl c.write.ensures
    (ap (λ (k : ℕ). a.n + 23 + k) c.from.ensures)
