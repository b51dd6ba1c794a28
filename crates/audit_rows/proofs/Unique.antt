-- No second result satisfies the contract of `Audit::fresh`. What a read brings is the system's; all else is crate table's.
use Rattle.octets.specs.Unique.{Fixes}
use Rattle.octets.proofs.Fixed.{fixed}
use Rattle.audit_rows.proofs.Audit.fresh.Kinds as kfresh
use Rattle.audit_rows.proofs.Audit.fresh.Reads as rfresh

pub fresh_fixed : Fixes kfresh.ps kfresh.r rfresh.Post (λ κs x s. x)
fresh_fixed = fixed kfresh.ps kfresh.r rfresh.Post _ _ (λ κs a x s p. p)
