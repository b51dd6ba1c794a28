-- No second result satisfies a contract of this crate's public functions.
use Rattle.std.proofs.Common.{ℕ, List, sym, ◌∙◌, ap₂}
use Rattle.octets.specs.Unique.{Fixes}
use Rattle.sender.specs.Send.{Lent, lent}
use Rattle.sender.specs.Answers.{SendAnswer}
use Rattle.sender.proofs.Told.{told_apart, outcome_apart}
use Rattle.sender.proofs.send.Kinds as ksend
use Rattle.sender.proofs.send.Reads as rsend
use Rattle.sender.proofs.empty.Kinds as kempty
use Rattle.sender.proofs.empty.Reads as rempty

-- the answer, and what is lent afterwards
pub send_fixed : Fixes ksend.ps ksend.r {A = SendAnswer × Lent} rsend.Post
    (λ κs x s. (x, lent s.1.1.1.1.1.1.1.0.now s.1.1.1.1.1.1.1.1.0.now))
send_fixed κs a x y s t p q = outcome_apart x y _ _ (p ∙ sym q)

pub empty_fixed : Fixes kempty.ps kempty.r {A = SendAnswer × List ℕ} rempty.Post (λ κs x s. (x, s.1.1.1.1.0.now))
empty_fixed κs a x y s t p q =
    ap₂ {C = SendAnswer × List ℕ} (λ r o. (r, o)) (told_apart x y (p.answers ∙ sym q.answers)) (p.leaves ∙ sym q.leaves)
