-- No second result satisfies the contracts of `note` and `line`.
use Prim.Native.Nat.{ℕ}
use mathlib.Core.List.{List}
use Rattle.octets.specs.Unique.{Fixes}
use Rattle.octets.proofs.Fixed.{fixed}
use Rattle.decimal.proofs.Laid.{one-put}
use Rattle.picture_images.proofs.note.Kinds as knote
use Rattle.picture_images.proofs.note.Reads as rnote
use Rattle.picture_images.proofs.line.Kinds as kline
use Rattle.picture_images.proofs.line.Reads as rline

-- the lent places afterwards
pub note_fixed : Fixes knote.ps knote.r rnote.Post (λ κs x s. s.0.now)
note_fixed = fixed knote.ps knote.r rnote.Post _ _ (λ κs a x s p. p)

-- the answer and the lent output afterwards
pub line_fixed : Fixes kline.ps kline.r {A = ℕ × List ℕ} rline.Post (λ κs x s. (x, s.0.now))
line_fixed κs a x y s t p q = one-put p q
