-- No second result satisfies the contracts of the public calls, but for what the system's reads and writes did.
use Rattle.octets.specs.Unique.{Fixes}
use Rattle.octets.proofs.Fixed.{fixed}
use Rattle.readings_turn.proofs.Stopped.failed.Kinds as kfailed
use Rattle.readings_turn.proofs.Stopped.failed.Reads as rfailed
use Rattle.readings_turn.proofs.Stopped.status.Kinds as kstatus
use Rattle.readings_turn.proofs.Stopped.status.Reads as rstatus

pub failed_fixed : Fixes kfailed.ps kfailed.r rfailed.Post (λ κs x s. x)
failed_fixed = fixed kfailed.ps kfailed.r rfailed.Post _ _ (λ κs a x s p. p)

pub status_fixed : Fixes kstatus.ps kstatus.r rstatus.Post (λ κs x s. x)
status_fixed = fixed kstatus.ps kstatus.r rstatus.Post _ _ (λ κs a x s p. p)
