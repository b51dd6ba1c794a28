-- No second result satisfies the contract of `brought`. What a reading brings is the system's: the form is that of what came.
use Rattle.octets.specs.Unique.{Fixes}
use Rattle.octets.proofs.Fixed.{fixed}
use Rattle.audit_form.proofs.brought.Kinds as kbrought
use Rattle.audit_form.proofs.brought.Reads as rbrought

pub brought_fixed : Fixes kbrought.ps kbrought.r rbrought.Post (λ κs x s. x)
brought_fixed = fixed kbrought.ps kbrought.r rbrought.Post _ _ (λ κs a x s p. p)
