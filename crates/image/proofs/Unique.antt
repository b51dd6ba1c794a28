-- No second result satisfies the contract of `place`: the answer, the lent image and the lent list afterwards.
use mathlib.Core.Path.{sym, ◌∙◌}
use Rattle.octets.specs.Unique.{Fixes}
use Rattle.image.specs.Line.{Image, image_of}
use Rattle.image.specs.Answers.{Placed}
use Rattle.image.proofs.Told.{observed_apart}
use Rattle.image.proofs.place.Kinds as kplace
use Rattle.image.proofs.place.Reads as rplace

pub place_fixed : Fixes kplace.ps kplace.r {A = Placed × Image} rplace.Post
    (λ κs x s. (x, image_of s.1.1.1.0.now s.1.1.1.1.0.now))
place_fixed κs a x y s t p q = observed_apart (p ∙ sym q)
