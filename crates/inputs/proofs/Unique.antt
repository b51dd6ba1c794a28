-- No second result satisfies a contract of this crate's public functions.
use Rattle.octets.specs.Unique.{Fixes}
use Rattle.octets.proofs.Fixed.{fixed}
use Rattle.inputs.proofs.wrong.Kinds as kwrong
use Rattle.inputs.proofs.wrong.Reads as rwrong
use Rattle.inputs.proofs.receiver.Kinds as kreceiver
use Rattle.inputs.proofs.receiver.Reads as rreceiver

pub wrong_fixed : Fixes kwrong.ps kwrong.r rwrong.Post (λ κs x s. x)
wrong_fixed = fixed kwrong.ps kwrong.r rwrong.Post _ _ (λ κs a x s p. p)

pub receiver_fixed : Fixes kreceiver.ps kreceiver.r rreceiver.Post (λ κs x s. x)
receiver_fixed = fixed kreceiver.ps kreceiver.r rreceiver.Post _ _ (λ κs a x s p. p)
