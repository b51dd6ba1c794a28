-- No second result satisfies the contract of this crate's public function.
use Rattle.octets.specs.Unique.{Fixes}
use Rattle.octets.proofs.Fixed.{fixed}
use Rattle.lengths.proofs.wrong.Kinds as kwrong
use Rattle.lengths.proofs.wrong.Reads as rwrong

pub wrong_fixed : Fixes kwrong.ps kwrong.r rwrong.Post (λ κs x s. x)
wrong_fixed = fixed kwrong.ps kwrong.r rwrong.Post _ _ (λ κs a x s p. p)
