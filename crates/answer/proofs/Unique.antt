-- No second result satisfies a contract of this crate's public functions.
use Rattle.octets.specs.Unique.{Fixes}
use Rattle.octets.proofs.Fixed.{fixed}
use Rattle.answer.proofs.Reason.number.Kinds as knumber
use Rattle.answer.proofs.Reason.number.Reads as rnumber
use Rattle.answer.proofs.Reason.octet.Kinds as koctet
use Rattle.answer.proofs.Reason.octet.Reads as roctet
use Rattle.answer.proofs.Refusal.plain.Kinds as kplain
use Rattle.answer.proofs.Refusal.plain.Reads as rplain
use Rattle.answer.proofs.Refusal.of.Kinds as kof
use Rattle.answer.proofs.Refusal.of.Reads as rof

pub number_fixed : Fixes knumber.ps knumber.r rnumber.Post (λ κs x s. x)
number_fixed = fixed knumber.ps knumber.r rnumber.Post _ _ (λ κs a x s p. p)

pub octet_fixed : Fixes koctet.ps koctet.r roctet.Post (λ κs x s. x)
octet_fixed = fixed koctet.ps koctet.r roctet.Post _ _ (λ κs a x s p. p)

pub plain_fixed : Fixes kplain.ps kplain.r rplain.Post (λ κs x s. x)
plain_fixed = fixed kplain.ps kplain.r rplain.Post _ _ (λ κs a x s p. p)

pub of_fixed : Fixes kof.ps kof.r rof.Post (λ κs x s. x)
of_fixed = fixed kof.ps kof.r rof.Post _ _ (λ κs a x s p. p)
