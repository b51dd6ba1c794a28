-- No second result satisfies a contract of this crate's public functions: the answer, and what is lent afterwards.
use mathlib.Core.Path.{sym, ◌∙◌}
use Rattle.octets.specs.Unique.{Fixes}
use Rattle.image.specs.Line.{Image, image_of}
use Rattle.greymap.specs.Writing.{Outputs, outputs}
use Rattle.greymap.specs.Answers.{PictureRead}
use Rattle.greymap.specs.Answers.{PictureWritten}
use Rattle.greymap.proofs.Told.{one_written, one-read}
use Rattle.greymap.proofs.write.Kinds as kwrite
use Rattle.greymap.proofs.write.Reads as rwrite
use Rattle.greymap.proofs.read.Kinds as kread
use Rattle.greymap.proofs.read.Reads as rread

pub write_fixed : Fixes kwrite.ps kwrite.r {A = PictureWritten × Outputs} rwrite.Post
    (λ κs x s. (x, outputs s.1.1.0.now s.1.1.1.0.now))
write_fixed κs a x y s t p q = one_written (p ∙ sym q)

pub read_fixed : Fixes kread.ps kread.r {A = PictureRead × Image} rread.Post
    (λ κs x s. (x, image_of s.1.1.0.now s.1.1.1.0.now))
read_fixed κs a x y s t p q = one-read (p ∙ sym q)
