-- No second result satisfies the contracts of this crate's public functions. What a read brings and whether a write fails is the system's:
-- of a refill it is fixed which octets stay at hand, of a write how many octets are handed on.
use Prim.Native.Nat.{ℕ, ◌-◌}
use mathlib.Core.List.{List}
use lib.ListN.{take}
use Rattle.octets.specs.Unique.{Fixes}
use Rattle.octets.proofs.Fixed.{fixed}
use Rattle.window.proofs.Hands.{stays}
use Rattle.window.proofs.hand.Kinds as khand
use Rattle.window.proofs.hand.Reads as rhand
use Rattle.window.proofs.refill.Kinds as krefill
use Rattle.window.proofs.refill.Reads as rrefill
use Rattle.window.proofs.write.Kinds as kwrite
use Rattle.window.proofs.write.Reads as rwrite
use Rattle.window.proofs.Refilled.none.Kinds as kunread
use Rattle.window.proofs.Refilled.none.Reads as runread
use Rattle.window.proofs.Refilled.have.Kinds as khave
use Rattle.window.proofs.Refilled.have.Reads as rhave
use Rattle.window.proofs.Refilled.came.Kinds as kcame
use Rattle.window.proofs.Refilled.came.Reads as rcame
use Rattle.window.proofs.Refilled.failed.Kinds as kunreadable
use Rattle.window.proofs.Refilled.failed.Reads as runreadable
use Rattle.window.proofs.Written.none.Kinds as kunwritten
use Rattle.window.proofs.Written.none.Reads as runwritten
use Rattle.window.proofs.Written.size.Kinds as ksize
use Rattle.window.proofs.Written.size.Reads as rsize
use Rattle.window.proofs.Written.failed.Kinds as kunwritable
use Rattle.window.proofs.Written.failed.Reads as runwritable

pub hand_fixed : Fixes khand.ps khand.r rhand.Post (λ κs x s. x.now)
hand_fixed = fixed khand.ps khand.r rhand.Post _ _ (λ κs a x s p. p)

-- the octets that were at hand
abbrev front : ℕ → List ℕ → List ℕ
front n l = take n l

pub refill_fixed : Fixes krefill.ps krefill.r rrefill.Post (λ κs x s. front (x.have - x.came) s.1.1.0.now)
refill_fixed = fixed krefill.ps krefill.r rrefill.Post (λ κs x s. front (x.have - x.came) s.1.1.0.now) _ (λ κs a x s p. stays p)

-- how many octets are handed on
pub write_fixed : Fixes kwrite.ps kwrite.r rwrite.Post (λ κs x s. x.size)
write_fixed = fixed kwrite.ps kwrite.r rwrite.Post _ _ (λ κs a x s p. p)

pub unread_fixed : Fixes kunread.ps kunread.r runread.Post (λ κs x s. x)
unread_fixed = fixed kunread.ps kunread.r runread.Post _ _ (λ κs a x s p. p)

pub have_fixed : Fixes khave.ps khave.r rhave.Post (λ κs x s. x)
have_fixed = fixed khave.ps khave.r rhave.Post _ _ (λ κs a x s p. p)

pub came_fixed : Fixes kcame.ps kcame.r rcame.Post (λ κs x s. x)
came_fixed = fixed kcame.ps kcame.r rcame.Post _ _ (λ κs a x s p. p)

pub unreadable_fixed : Fixes kunreadable.ps kunreadable.r runreadable.Post (λ κs x s. x)
unreadable_fixed = fixed kunreadable.ps kunreadable.r runreadable.Post _ _ (λ κs a x s p. p)

pub unwritten_fixed : Fixes kunwritten.ps kunwritten.r runwritten.Post (λ κs x s. x)
unwritten_fixed = fixed kunwritten.ps kunwritten.r runwritten.Post _ _ (λ κs a x s p. p)

pub size_fixed : Fixes ksize.ps ksize.r rsize.Post (λ κs x s. x)
size_fixed = fixed ksize.ps ksize.r rsize.Post _ _ (λ κs a x s p. p)

pub unwritable_fixed : Fixes kunwritable.ps kunwritable.r runwritable.Post (λ κs x s. x)
unwritable_fixed = fixed kunwritable.ps kunwritable.r runwritable.Post _ _ (λ κs a x s p. p)
