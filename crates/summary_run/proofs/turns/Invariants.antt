-- `turns` meets its contract.
use Prim.Native.Nat.{◌-◌, ◌≤◌}
use mathlib.Core.Path.{◌≡◌}
use lib.ListN.{length}
use Rattle.session.specs.Lent.{lent}
use Rattle.window.specs.Turns.{most}
use Rattle.summary_count.specs.Count.{ledger}
use Rattle.summary_run.proofs.Whole.{Gone}
use Rattle.summary_run.proofs.turns.Given as goal

abbrev pub invariant-loop-state : goal.invariant-loop-state
invariant-loop-state l = (length l.input ≡ length l.initial.input) × (length l.counts ≡ length l.initial.counts) × (length l.keys ≡ length l.initial.keys) × (length l.many ≡ length l.initial.many)
    × (length l.last ≡ length l.initial.last) × (length l.octets ≡ 501) × (length l.lengths ≡ 16) × (length l.firsts ≡ 16) × (l.made ≤ most)
    × Gone l.initial.state l.initial.input l.initial.kept (lent l.initial.octets l.initial.lengths l.initial.firsts) (ledger l.initial.counts l.initial.keys l.initial.many l.initial.last) l.made
    l.state l.input l.kept (lent l.octets l.lengths l.firsts) (ledger l.counts l.keys l.many l.last)

abbrev pub decreases-loop-state : goal.decreases-loop-state
decreases-loop-state l = most - l.made
