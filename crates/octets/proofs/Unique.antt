-- No second result satisfies a contract of this crate's public functions.
use Rattle.octets.specs.Unique.{Fixes}
use Rattle.octets.proofs.Fixed.{fixed}
use Rattle.octets.proofs.wide.Kinds as kwide
use Rattle.octets.proofs.wide.Reads as rwide
use Rattle.octets.proofs.word.Kinds as kword
use Rattle.octets.proofs.word.Reads as rword
use Rattle.octets.proofs.four.Kinds as kfour
use Rattle.octets.proofs.four.Reads as rfour
use Rattle.octets.proofs.five.Kinds as kfive
use Rattle.octets.proofs.five.Reads as rfive
use Rattle.octets.proofs.word_octets.Kinds as kword-octets
use Rattle.octets.proofs.word_octets.Reads as rword-octets
use Rattle.octets.proofs.four_octets.Kinds as kfour-octets
use Rattle.octets.proofs.four_octets.Reads as rfour-octets
use Rattle.octets.proofs.five_octets.Kinds as kfive-octets
use Rattle.octets.proofs.five_octets.Reads as rfive-octets
use Rattle.octets.proofs.part.Kinds as kpart
use Rattle.octets.proofs.part.Reads as rpart
use Rattle.octets.proofs.same.Kinds as ksame
use Rattle.octets.proofs.same.Reads as rsame
use Rattle.octets.proofs.put.Kinds as kput
use Rattle.octets.proofs.put.Reads as rput

pub wide_fixed : Fixes kwide.ps kwide.r rwide.Post (λ κs x s. x)
wide_fixed = fixed kwide.ps kwide.r rwide.Post _ _ (λ κs a x s p. p)

pub word_fixed : Fixes kword.ps kword.r rword.Post (λ κs x s. x)
word_fixed = fixed kword.ps kword.r rword.Post _ _ (λ κs a x s p. p)

pub four_fixed : Fixes kfour.ps kfour.r rfour.Post (λ κs x s. x)
four_fixed = fixed kfour.ps kfour.r rfour.Post _ _ (λ κs a x s p. p)

pub five_fixed : Fixes kfive.ps kfive.r rfive.Post (λ κs x s. x)
five_fixed = fixed kfive.ps kfive.r rfive.Post _ _ (λ κs a x s p. p)

pub word_octets_fixed : Fixes kword-octets.ps kword-octets.r rword-octets.Post (λ κs x s. x)
word_octets_fixed = fixed kword-octets.ps kword-octets.r rword-octets.Post _ _ (λ κs a x s p. p)

pub four_octets_fixed : Fixes kfour-octets.ps kfour-octets.r rfour-octets.Post (λ κs x s. x)
four_octets_fixed = fixed kfour-octets.ps kfour-octets.r rfour-octets.Post _ _ (λ κs a x s p. p)

pub five_octets_fixed : Fixes kfive-octets.ps kfive-octets.r rfive-octets.Post (λ κs x s. x)
five_octets_fixed = fixed kfive-octets.ps kfive-octets.r rfive-octets.Post _ _ (λ κs a x s p. p)

-- the octets seen through the result
pub part_fixed : Fixes kpart.ps kpart.r rpart.Post (λ κs x s. x.now)
part_fixed = fixed kpart.ps kpart.r rpart.Post _ _ (λ κs a x s p. p)

pub same_fixed : Fixes ksame.ps ksame.r rsame.Post (λ κs x s. x)
same_fixed = fixed ksame.ps ksame.r rsame.Post _ _ (λ κs a x s p. p)

-- the lent octets afterwards
pub put_fixed : Fixes kput.ps kput.r rput.Post (λ κs x s. s.0.now)
put_fixed = fixed kput.ps kput.r rput.Post _ _ (λ κs a x s p. p)
