-- No second result satisfies a contract of this crate's public functions.
use Prim.Native.Nat.{ℕ}
use mathlib.Core.List.{List}
use Rattle.octets.specs.Unique.{Fixes}
use Rattle.octets.proofs.Fixed.{fixed, fixed_told}
use Rattle.answer.proofs.Writer.{one_written}
use Rattle.answer.specs.Writer.{Written}
use Rattle.report.specs.Report.{told}
use Rattle.report.proofs.Told.{told_apart}
use Rattle.report.proofs.Report.read.Kinds as kread
use Rattle.report.proofs.Report.read.Reads as rread
use Rattle.report.proofs.Housekeeping.rest.Kinds as krest
use Rattle.report.proofs.Housekeeping.rest.Reads as rrest
use Rattle.report.proofs.Available.first_block.Kinds as kfirst-block
use Rattle.report.proofs.Available.first_block.Reads as rfirst-block
use Rattle.report.proofs.Available.second_block.Kinds as ksecond-block
use Rattle.report.proofs.Available.second_block.Reads as rsecond-block
use Rattle.report.proofs.Line.pixels.Kinds as kpixels
use Rattle.report.proofs.Line.pixels.Reads as rpixels
use Rattle.report.proofs.Success.write.Kinds as ksuccess
use Rattle.report.proofs.Success.write.Reads as rsuccess
use Rattle.report.proofs.Failure.write.Kinds as kfailure
use Rattle.report.proofs.Failure.write.Reads as rfailure
use Rattle.report.proofs.Housekeeping.write.Kinds as khousekeeping
use Rattle.report.proofs.Housekeeping.write.Reads as rhousekeeping
use Rattle.report.proofs.Available.write.Kinds as kavailable
use Rattle.report.proofs.Available.write.Reads as ravailable
use Rattle.report.proofs.Line.write.Kinds as kline
use Rattle.report.proofs.Line.write.Reads as rline

pub read_fixed : Fixes kread.ps kread.r rread.Post (λ κs x s. x)
read_fixed = fixed_told kread.ps kread.r rread.Post _ told told_apart _ (λ κs a x s p. p)

-- the octets seen through the result
pub rest_fixed : Fixes krest.ps krest.r rrest.Post (λ κs x s. x.now)
rest_fixed = fixed krest.ps krest.r rrest.Post _ _ (λ κs a x s p. p)

pub first_block_fixed : Fixes kfirst-block.ps kfirst-block.r rfirst-block.Post (λ κs x s. x.now)
first_block_fixed = fixed kfirst-block.ps kfirst-block.r rfirst-block.Post _ _ (λ κs a x s p. p)

pub second_block_fixed : Fixes ksecond-block.ps ksecond-block.r rsecond-block.Post (λ κs x s. x.now)
second_block_fixed = fixed ksecond-block.ps ksecond-block.r rsecond-block.Post _ _ (λ κs a x s p. p)

pub pixels_fixed : Fixes kpixels.ps kpixels.r rpixels.Post (λ κs x s. x.now)
pixels_fixed = fixed kpixels.ps kpixels.r rpixels.Post _ _ (λ κs a x s p. p)

-- the answer and the lent output afterwards
pub success_fixed : Fixes ksuccess.ps ksuccess.r {A = Written × List ℕ} rsuccess.Post (λ κs x s. (x, s.1.1.0.now))
success_fixed κs a x y s t p q = one_written p q

pub failure_fixed : Fixes kfailure.ps kfailure.r {A = Written × List ℕ} rfailure.Post (λ κs x s. (x, s.1.1.0.now))
failure_fixed κs a x y s t p q = one_written p q

pub housekeeping_fixed : Fixes khousekeeping.ps khousekeeping.r {A = Written × List ℕ} rhousekeeping.Post
    (λ κs x s. (x, s.1.1.1.0.now))
housekeeping_fixed κs a x y s t p q = one_written p q

pub available_fixed : Fixes kavailable.ps kavailable.r {A = Written × List ℕ} ravailable.Post (λ κs x s. (x, s.1.1.1.1.0.now))
available_fixed κs a x y s t p q = one_written p q

pub line_fixed : Fixes kline.ps kline.r {A = Written × List ℕ} rline.Post (λ κs x s. (x, s.1.1.1.0.now))
line_fixed κs a x y s t p q = one_written p q
