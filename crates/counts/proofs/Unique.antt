-- No second result satisfies a contract of this crate's public functions.
use Rattle.octets.specs.Unique.{Fixes}
use Rattle.octets.proofs.Fixed.{fixed}
use Rattle.counts.proofs.MasterCount.lost.Kinds as kmaster
use Rattle.counts.proofs.MasterCount.lost.Reads as rmaster
use Rattle.counts.proofs.ChannelCount.lost.Kinds as kchannel
use Rattle.counts.proofs.ChannelCount.lost.Reads as rchannel
use Rattle.counts.proofs.SequenceCount.missing.Kinds as ksequence
use Rattle.counts.proofs.SequenceCount.missing.Reads as rsequence

pub master_fixed : Fixes kmaster.ps kmaster.r rmaster.Post (λ κs x s. x)
master_fixed = fixed kmaster.ps kmaster.r rmaster.Post _ _ (λ κs a x s p. p)

pub channel_fixed : Fixes kchannel.ps kchannel.r rchannel.Post (λ κs x s. x)
channel_fixed = fixed kchannel.ps kchannel.r rchannel.Post _ _ (λ κs a x s p. p)

pub sequence_fixed : Fixes ksequence.ps ksequence.r rsequence.Post (λ κs x s. x)
sequence_fixed = fixed ksequence.ps ksequence.r rsequence.Post _ _ (λ κs a x s p. p)
