-- No second result satisfies a contract of this crate's public functions.
use Rattle.octets.specs.Unique.{Fixes}
use Rattle.octets.proofs.Fixed.{fixed}
use Rattle.table.proofs.Form.fresh.Kinds as kfresh
use Rattle.table.proofs.Form.fresh.Reads as rfresh
use Rattle.table.proofs.Form.read.Kinds as kread
use Rattle.table.proofs.Form.read.Reads as rread
use Rattle.table.proofs.Form.end.Kinds as kform-end
use Rattle.table.proofs.Form.end.Reads as rform-end
use Rattle.table.proofs.Check.start.Kinds as kstart
use Rattle.table.proofs.Check.start.Reads as rstart
use Rattle.table.proofs.Check.look.Kinds as klook
use Rattle.table.proofs.Check.look.Reads as rlook
use Rattle.table.proofs.Check.end.Kinds as kcheck-end
use Rattle.table.proofs.Check.end.Reads as rcheck-end

pub fresh_fixed : Fixes kfresh.ps kfresh.r rfresh.Post (λ κs x s. x)
fresh_fixed = fixed kfresh.ps kfresh.r rfresh.Post _ _ (λ κs a x s p. p)

pub read_fixed : Fixes kread.ps kread.r rread.Post (λ κs x s. x)
read_fixed = fixed kread.ps kread.r rread.Post _ _ (λ κs a x s p. p)

pub form_end_fixed : Fixes kform-end.ps kform-end.r rform-end.Post (λ κs x s. x)
form_end_fixed = fixed kform-end.ps kform-end.r rform-end.Post _ _ (λ κs a x s p. p)

pub start_fixed : Fixes kstart.ps kstart.r rstart.Post (λ κs x s. x)
start_fixed = fixed kstart.ps kstart.r rstart.Post _ _ (λ κs a x s p. p)

pub look_fixed : Fixes klook.ps klook.r rlook.Post (λ κs x s. x)
look_fixed = fixed klook.ps klook.r rlook.Post _ _ (λ κs a x s p. p)

pub check_end_fixed : Fixes kcheck-end.ps kcheck-end.r rcheck-end.Post (λ κs x s. x)
check_end_fixed = fixed kcheck-end.ps kcheck-end.r rcheck-end.Post _ _ (λ κs a x s p. p)
