-- No second result satisfies a contract of this crate's public functions.
use mathlib.Core.List.{List}
use Prim.Native.Nat.{ℕ}
use Rattle.octets.specs.Unique.{Fixes}
use Rattle.octets.proofs.Fixed.{fixed, fixed_told}
use Rattle.answer.proofs.Writer.{one_written}
use Rattle.answer.specs.Writer.{Written}
use Rattle.packet.specs.Packet.{told}
use Rattle.packet.proofs.Told.{told_apart}
use Rattle.packet.proofs.Packet.read.Kinds as kread
use Rattle.packet.proofs.Packet.read.Reads as rread
use Rattle.packet.proofs.Packet.source.Kinds as ksource
use Rattle.packet.proofs.Packet.source.Reads as rsource
use Rattle.packet.proofs.Packet.write.Kinds as kwrite
use Rattle.packet.proofs.Packet.write.Reads as rwrite

pub read_fixed : Fixes kread.ps kread.r rread.Post (λ κs x s. x)
read_fixed = fixed_told kread.ps kread.r rread.Post _ told told_apart _ (λ κs a x s p. p)

-- the octets seen through the result
pub source_fixed : Fixes ksource.ps ksource.r rsource.Post (λ κs x s. x.now)
source_fixed = fixed ksource.ps ksource.r rsource.Post _ _ (λ κs a x s p. p)

-- the answer and the lent output afterwards
pub write_fixed : Fixes kwrite.ps kwrite.r {A = Written × List ℕ} rwrite.Post (λ κs x s. (x, s.1.1.0.now))
write_fixed κs a x y s t p q = one_written p q
