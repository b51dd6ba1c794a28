-- No second result satisfies a contract of this crate's public functions.
use Rattle.std.proofs.Common.{ℕ, List}
use Rattle.octets.specs.Unique.{Fixes}
use Rattle.octets.proofs.Fixed.{fixed}
use Rattle.transmit_recording.proofs.lose.Kinds as klose
use Rattle.transmit_recording.proofs.lose.Reads as rlose
use Rattle.transmit_recording.proofs.head.Kinds as khead
use Rattle.transmit_recording.proofs.head.Reads as rhead
use Rattle.transmit_recording.proofs.lay.Kinds as klay
use Rattle.transmit_recording.proofs.lay.Reads as rlay

-- how many octets the recording has, and the output afterwards
pub lay_fixed : Fixes klay.ps klay.r {A = ℕ × List ℕ} rlay.Post (λ κs x s. (x, s.1.1.1.0.now))
lay_fixed κs a x y s t p q = simp (p.size, q.size, p.leaves, q.leaves)

-- the frames' lengths afterwards
pub lose_fixed : Fixes klose.ps klose.r rlose.Post (λ κs x s. s.1.0.now)
lose_fixed = fixed klose.ps klose.r rlose.Post _ _ (λ κs a x s p. p)

pub head_fixed : Fixes khead.ps khead.r rhead.Post (λ κs x s. x)
head_fixed = fixed khead.ps khead.r rhead.Post _ _ (λ κs a x s p. p)
