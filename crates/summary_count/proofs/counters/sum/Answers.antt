-- `summary_count::counters::sum` meets its contract.
use Prim.Native.Nat.{ℕ, ◌+◌, ◌-◌, ◌≤◌, ◌<◌}
use native.Mathlib.Omega.{arith}
use mathlib.Core.Path.{◌≡◌}
use lib.Dec.{ltb}
use borrow.Author.Tests.{ltb-true, ltb-false}
use Rattle.octets.proofs.Choices.{picks}
use Rattle.summary_count.specs.Count.{largest, saturated}
use Rattle.summary_count.proofs.counters.sum.Goals as goal

pub returns : goal.returns
unfolding saturated
returns c =
    let x = c.args.x in
    let n = c.args.n in
    picks (λ (s : ℕ). c.saturating_add.result ≡ s) (ltb (largest - x) n) largest (x + n)
    (λ t. let h : largest - x < n = ltb-true _ _ t in omega (arith, c.saturating_add.ensures))
    (λ f. let h : n ≤ largest - x = ltb-false _ _ f in omega (arith, c.saturating_add.ensures))
