-- No second result satisfies a contract of this crate's public functions.
use Prim.Native.Nat.{ℕ}
use mathlib.Core.List.{List}
use Rattle.octets.specs.Unique.{Fixes}
use Rattle.octets.proofs.Fixed.{fixed}
use Rattle.summary_count.specs.Count.{Ledger, ledger}
use Rattle.summary_count.proofs.counters.sum.Kinds as ksum
use Rattle.summary_count.proofs.counters.sum.Reads as rsum
use Rattle.summary_count.proofs.counters.judge.Kinds as kjudge
use Rattle.summary_count.proofs.counters.judge.Reads as rjudge
use Rattle.summary_count.proofs.answered.Kinds as kanswered
use Rattle.summary_count.proofs.answered.Reads as ranswered

pub sum_fixed : Fixes ksum.ps ksum.r rsum.Post (λ κs x s. x)
sum_fixed = fixed ksum.ps ksum.r rsum.Post _ _ (λ κs a x s p. p)

-- the counters afterwards
pub judge_fixed : Fixes kjudge.ps kjudge.r {A = List ℕ} rjudge.Post (λ κs x s. s.0.now)
judge_fixed = fixed kjudge.ps kjudge.r rjudge.Post _ _ (λ κs a x s p. p)

-- the four lists afterwards
pub answered_fixed : Fixes kanswered.ps kanswered.r {A = Ledger} ranswered.Post
    (λ κs x s. ledger s.1.1.1.0.now s.1.1.1.1.0.now s.1.1.1.1.1.0.now s.1.1.1.1.1.1.0.now)
answered_fixed = fixed kanswered.ps kanswered.r ranswered.Post _ _ (λ κs a x s p. p)
