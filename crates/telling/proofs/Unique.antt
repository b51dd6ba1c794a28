-- No second result satisfies the contract of `count`.
use Rattle.octets.specs.Unique.{Fixes}
use Rattle.octets.proofs.Fixed.{fixed}
use Rattle.telling.proofs.count.Kinds as kcount
use Rattle.telling.proofs.count.Reads as rcount

-- the lent counts afterwards
pub count_fixed : Fixes kcount.ps kcount.r rcount.Post (λ κs x s. s.0.now)
count_fixed = fixed kcount.ps kcount.r rcount.Post _ _ (λ κs a x s p. p)
