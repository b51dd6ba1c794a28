-- No second result satisfies the contract of `place_all`.
use Rattle.octets.specs.Unique.{Fixes}
use Rattle.octets.proofs.Fixed.{fixed}
use Rattle.picture_frame.specs.Received.{received}
use Rattle.picture_frame.proofs.place_all.Kinds as kall
use Rattle.picture_frame.proofs.place_all.Reads as rall

-- all that is lent, afterwards
pub place_all_fixed : Fixes kall.ps kall.r rall.Post
    (λ κs x s. received s.1.1.1.1.0.now s.1.1.1.1.1.0.now s.1.1.1.1.1.1.0.now
    s.1.1.1.1.1.1.1.0.now)
place_all_fixed = fixed kall.ps kall.r rall.Post _ _ (λ κs a x s p. p)
