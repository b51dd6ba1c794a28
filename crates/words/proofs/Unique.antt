-- No second result satisfies a contract of this crate's public functions.
use Rattle.octets.specs.Unique.{Fixes}
use Rattle.octets.proofs.Fixed.{fixed}
use Rattle.words.proofs.word.Kinds as kword
use Rattle.words.proofs.word.Reads as rword
use Rattle.words.proofs.rest.Kinds as krest
use Rattle.words.proofs.rest.Reads as rrest
use Rattle.words.proofs.number.Kinds as knumber
use Rattle.words.proofs.number.Reads as rnumber
use Rattle.words.proofs.hex.Kinds as khex
use Rattle.words.proofs.hex.Reads as rhex

pub word_fixed : Fixes kword.ps kword.r rword.Post (λ κs x s. x.now)
word_fixed = fixed kword.ps kword.r rword.Post _ _ (λ κs a x s p. p)

pub rest_fixed : Fixes krest.ps krest.r rrest.Post (λ κs x s. x.now)
rest_fixed = fixed krest.ps krest.r rrest.Post _ _ (λ κs a x s p. p)

pub number_fixed : Fixes knumber.ps knumber.r rnumber.Post (λ κs x s. x)
number_fixed = fixed knumber.ps knumber.r rnumber.Post _ _ (λ κs a x s p. p)

-- the answer, and the lent octets afterwards
pub hex_fixed : Fixes khex.ps khex.r rhex.Post (λ κs x s. x)
hex_fixed = fixed khex.ps khex.r rhex.Post _ _ (λ κs a x s p. p.0)

pub hex_left_fixed : Fixes khex.ps khex.r rhex.Post (λ κs x s. s.1.0.now)
hex_left_fixed = fixed khex.ps khex.r rhex.Post _ _ (λ κs a x s p. p.1)
