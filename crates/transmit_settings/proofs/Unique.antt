-- No second result satisfies a contract of this crate's public functions.
use Rattle.std.proofs.Common.{ap}
use Rattle.octets.specs.Unique.{Fixes}
use Rattle.octets.proofs.Fixed.{fixed}
use Rattle.transmit_settings.specs.Setting.{Set}
use Rattle.transmit_settings.proofs.Row.more.Kinds as kmore
use Rattle.transmit_settings.proofs.Row.more.Reads as rmore
use Rattle.transmit_settings.proofs.State.fresh.Kinds as kfresh
use Rattle.transmit_settings.proofs.State.fresh.Reads as rfresh
use Rattle.transmit_settings.proofs.State.going.Kinds as kgoing
use Rattle.transmit_settings.proofs.State.going.Reads as rgoing
use Rattle.transmit_settings.proofs.State.stopped.Kinds as kstopped
use Rattle.transmit_settings.proofs.State.stopped.Reads as rstopped
use Rattle.transmit_settings.proofs.State.count.Kinds as kcount
use Rattle.transmit_settings.proofs.State.count.Reads as rcount
use Rattle.transmit_settings.proofs.State.counted.Kinds as kcounted
use Rattle.transmit_settings.proofs.State.counted.Reads as rcounted
use Rattle.transmit_settings.proofs.State.sent.Kinds as ksent
use Rattle.transmit_settings.proofs.State.sent.Reads as rsent
use Rattle.transmit_settings.proofs.set.Kinds as kset
use Rattle.transmit_settings.proofs.set.Reads as rset

pub more_fixed : Fixes kmore.ps kmore.r rmore.Post (λ κs x s. x)
more_fixed = fixed kmore.ps kmore.r rmore.Post _ _ (λ κs a x s p. p)

pub fresh_fixed : Fixes kfresh.ps kfresh.r rfresh.Post (λ κs x s. x)
fresh_fixed = fixed kfresh.ps kfresh.r rfresh.Post _ _ (λ κs a x s p. p)

pub going_fixed : Fixes kgoing.ps kgoing.r rgoing.Post (λ κs x s. x)
going_fixed = fixed kgoing.ps kgoing.r rgoing.Post _ _ (λ κs a x s p. p)

pub stopped_fixed : Fixes kstopped.ps kstopped.r rstopped.Post (λ κs x s. x)
stopped_fixed = fixed kstopped.ps kstopped.r rstopped.Post _ _ (λ κs a x s p. p)

pub count_fixed : Fixes kcount.ps kcount.r rcount.Post (λ κs x s. x)
count_fixed = fixed kcount.ps kcount.r rcount.Post _ _ (λ κs a x s p. p)

pub counted_fixed : Fixes kcounted.ps kcounted.r rcounted.Post (λ κs x s. x)
counted_fixed = fixed kcounted.ps kcounted.r rcounted.Post _ _ (λ κs a x s p. p)

pub sent_fixed : Fixes ksent.ps ksent.r rsent.Post (λ κs x s. x)
sent_fixed = fixed ksent.ps ksent.r rsent.Post _ _ (λ κs a x s p. p)

-- the answer, and the time's octets afterwards
pub set_fixed : Fixes kset.ps kset.r rset.Post (λ κs x s. x)
set_fixed = fixed kset.ps kset.r rset.Post _ _ (λ κs a x s p. ap (λ (o : Set). o.stepped) p)

pub set_left_fixed : Fixes kset.ps kset.r rset.Post (λ κs x s. s.1.1.1.0.now)
set_left_fixed = fixed kset.ps kset.r rset.Post _ _ (λ κs a x s p. ap (λ (o : Set). o.stamp) p)
