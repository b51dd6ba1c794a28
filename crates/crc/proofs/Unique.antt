-- No second result satisfies a contract of this crate.
use Rattle.octets.specs.Unique.{Fixes}
use Rattle.octets.proofs.Fixed.{fixed}
use Rattle.crc.proofs.frame_check.Kinds as frame-kinds
use Rattle.crc.proofs.frame_check.Reads as frame-check
use Rattle.crc.proofs.packet_check.Kinds as packet-kinds
use Rattle.crc.proofs.packet_check.Reads as packet-check

pub packet_check_fixed : Fixes packet-kinds.ps packet-kinds.r packet-check.Post (λ κs x s. x)
packet_check_fixed = fixed packet-kinds.ps packet-kinds.r packet-check.Post _ _ (λ κs a x s p. p)

pub frame_check_fixed : Fixes frame-kinds.ps frame-kinds.r frame-check.Post (λ κs x s. x)
frame_check_fixed = fixed frame-kinds.ps frame-kinds.r frame-check.Post _ _ (λ κs a x s p. p)
