-- `summary_count::counters::add` meets its contract.
use Prim.Native.Nat.{ℕ}
use mathlib.Core.Path.{sym, ap}
use lib.ListN.{set}
use lib.Seq.{set_out}
use Rattle.summary_count.specs.Count.{added}
use Rattle.summary_count.proofs.counters.add.Goals as goal

pub returns-then-i-counts : goal.returns-then-i-counts
unfolding added
returns-then-i-counts c =
    ap (λ (x : ℕ). set c.args.counts.now c.args.i x) c.sum.ensures

pub returns-else-i-counts : goal.returns-else-i-counts
unfolding added
returns-else-i-counts c = sym (set_out _ _ _ c.if-i-counts.false)
