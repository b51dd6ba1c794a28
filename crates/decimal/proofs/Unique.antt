-- No second result satisfies a contract of this crate's public functions.
use Prim.Native.Nat.{ℕ}
use mathlib.Core.List.{List}
use Rattle.octets.specs.Unique.{Fixes}
use Rattle.octets.proofs.Fixed.{fixed}
use Rattle.decimal.proofs.Laid.{one-put}
use Rattle.decimal.proofs.number.Kinds as knumber
use Rattle.decimal.proofs.number.Reads as rnumber
use Rattle.decimal.proofs.numbers.Kinds as knumbers
use Rattle.decimal.proofs.numbers.Reads as rnumbers
use Rattle.decimal.proofs.read.Kinds as kread
use Rattle.decimal.proofs.read.Reads as rread

-- the answer and the lent output afterwards
pub number_fixed : Fixes knumber.ps knumber.r {A = ℕ × List ℕ} rnumber.Post (λ κs x s. (x, s.0.now))
number_fixed κs a x y s t p q = one-put p q

pub numbers_fixed : Fixes knumbers.ps knumbers.r {A = ℕ × List ℕ} rnumbers.Post (λ κs x s. (x, s.0.now))
numbers_fixed κs a x y s t p q = one-put p q

-- the answer
pub read_fixed : Fixes kread.ps kread.r rread.Post (λ κs x s. x)
read_fixed = fixed kread.ps kread.r rread.Post _ _ (λ κs a x s p. p)
