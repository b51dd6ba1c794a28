-- No second result satisfies the contract of this crate's public function.
use Prim.Native.Nat.{ℕ}
use mathlib.Core.List.{List}
use Rattle.octets.specs.Unique.{Fixes}
use Rattle.answer.specs.Writer.{Written}
use Rattle.answer.proofs.Writer.{one_written}
use Rattle.rawbits_writer.proofs.write.Kinds as kwrite
use Rattle.rawbits_writer.proofs.write.Reads as rwrite

-- the answer, and the lent output afterwards
pub write_fixed : Fixes kwrite.ps kwrite.r {A = Written × List ℕ} rwrite.Post (λ κs x s. (x, s.1.1.0.now))
write_fixed κs a x y s t p q = one_written p q
