-- `images::note` meets its contract.
use Prim.Native.Nat.{ℕ, ◌+◌}
use mathlib.Core.Path.{ap}
use Rattle.summary_count.proofs.Noting.{noted_here, noted-nowhere}
use Rattle.summary_count.proofs.images.note.Goals as goal

pub returns-then-i-lt-IMAGES : goal.returns-then-i-lt-IMAGES
returns-then-i-lt-IMAGES c =
    noted_here c.args.image c.args.line c.args.counts.now (ap (λ (n : ℕ). n + 1) c.from-key.ensures) c.place-i.ensures
    c.if-i-lt-IMAGES.true
    c.from.ensures c.leave.ensures
    c.leave-then-i-lt-IMAGES.ensures

pub returns : goal.returns
returns c =
    noted-nowhere c.args.image c.args.line c.args.counts.now (ap (λ (n : ℕ). n + 1) c.from-key.ensures) c.place-i.ensures
    c.if-i-lt-IMAGES.false c.add.ensures
