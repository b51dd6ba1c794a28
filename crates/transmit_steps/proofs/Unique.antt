-- No second result satisfies a contract of this crate's public functions.
use Rattle.octets.specs.Unique.{Fixes}
use Rattle.octets.proofs.Fixed.{fixed}
use Rattle.transmit_steps.specs.Step.{lent, outcome}
use Rattle.transmit_steps.proofs.front.Kinds as kfront
use Rattle.transmit_steps.proofs.front.Reads as rfront
use Rattle.transmit_steps.proofs.step.Kinds as kstep
use Rattle.transmit_steps.proofs.step.Reads as rstep

pub front_fixed : Fixes kfront.ps kfront.r rfront.Post (λ κs x s. x.now)
front_fixed = fixed kfront.ps kfront.r rfront.Post _ _ (λ κs a x s p. p)

-- the answer, and all that is lent afterwards
pub step_fixed : Fixes kstep.ps kstep.r rstep.Post
    (λ κs x s. outcome x
    (lent s.1.1.0.now s.1.1.1.0.now s.1.1.1.1.0.now s.1.1.1.1.1.0.now s.1.1.1.1.1.1.0.now))
step_fixed = fixed kstep.ps kstep.r rstep.Post _ _ (λ κs a x s p. p)
