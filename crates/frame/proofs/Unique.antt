-- No second result satisfies a contract of this crate's public functions.
use Prim.Native.Nat.{ℕ}
use mathlib.Core.List.{List}
use Rattle.octets.specs.Unique.{Fixes}
use Rattle.octets.proofs.Fixed.{fixed, fixed_told}
use Rattle.answer.proofs.Writer.{one_written}
use Rattle.answer.specs.Writer.{Written}
use Rattle.frame.specs.Frame.{told}
use Rattle.frame.proofs.Told.{told_apart}
use Rattle.frame.proofs.Frame.new.Kinds as knew
use Rattle.frame.proofs.Frame.new.Reads as rnew
use Rattle.frame.proofs.Frame.read.Kinds as kread
use Rattle.frame.proofs.Frame.read.Reads as rread
use Rattle.frame.proofs.Frame.data.Kinds as kdata
use Rattle.frame.proofs.Frame.data.Reads as rdata
use Rattle.frame.proofs.Frame.time.Kinds as ktime
use Rattle.frame.proofs.Frame.time.Reads as rtime
use Rattle.frame.proofs.Frame.write.Kinds as kwrite
use Rattle.frame.proofs.Frame.write.Reads as rwrite

pub new_fixed : Fixes knew.ps knew.r rnew.Post (λ κs x s. x)
new_fixed = fixed knew.ps knew.r rnew.Post _ _ (λ κs a x s p. p)

pub read_fixed : Fixes kread.ps kread.r rread.Post (λ κs x s. x)
read_fixed = fixed_told kread.ps kread.r rread.Post _ told told_apart _ (λ κs a x s p. p)

-- the octets seen through the result
pub data_fixed : Fixes kdata.ps kdata.r rdata.Post (λ κs x s. x.now)
data_fixed = fixed kdata.ps kdata.r rdata.Post _ _ (λ κs a x s p. p)

pub time_fixed : Fixes ktime.ps ktime.r rtime.Post (λ κs x s. x.now)
time_fixed = fixed ktime.ps ktime.r rtime.Post _ _ (λ κs a x s p. p)

-- the answer and the lent output afterwards
pub write_fixed : Fixes kwrite.ps kwrite.r {A = Written × List ℕ} rwrite.Post (λ κs x s. (x, s.1.1.1.1.0.now))
write_fixed κs a x y s t p q = one_written p q
