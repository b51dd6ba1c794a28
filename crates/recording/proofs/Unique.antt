-- No second result satisfies a contract of this crate's public functions.
use mathlib.Core.Path.{◌≡◌, refl, sym, ap}
use mathlib.Core.Bool.{true≢false}
use Rattle.octets.specs.Unique.{Fixes}
use Rattle.octets.proofs.Fixed.{fixed, fixed_told}
use Rattle.recording.specs.Sections.{Seen, told}
use Rattle.recording.specs.declared.Section.{Section}
use Rattle.recording.specs.declared.Section.TheVariants.{Missing, Bad, Whole}
use Rattle.recording.proofs.settings.Kinds as ksettings
use Rattle.recording.proofs.settings.Reads as rsettings
use Rattle.recording.proofs.count.Kinds as kcount
use Rattle.recording.proofs.count.Reads as rcount
use Rattle.recording.proofs.frame.Kinds as kframe
use Rattle.recording.proofs.frame.Reads as rframe
use Rattle.recording.proofs.Reader.scan.Kinds as kscan
use Rattle.recording.proofs.Reader.scan.Reads as rscan

-- no two answers are told alike
pub told_apart : (x y : Section) → told x ≡ told y → x ≡ y
told_apart (Missing m) (Missing n) h = ap (λ (s : Seen). Missing s.number) h
told_apart (Missing m) Bad h = absurd (true≢false (ap (λ (s : Seen). s.bad) (sym h)))
told_apart (Missing m) (Whole n) h = absurd (true≢false (ap (λ (s : Seen). s.whole) (sym h)))
told_apart Bad (Missing n) h = absurd (true≢false (ap (λ (s : Seen). s.bad) h))
told_apart Bad Bad h = refl
told_apart Bad (Whole n) h = absurd (true≢false (ap (λ (s : Seen). s.bad) h))
told_apart (Whole m) (Missing n) h = absurd (true≢false (ap (λ (s : Seen). s.whole) h))
told_apart (Whole m) Bad h = absurd (true≢false (ap (λ (s : Seen). s.whole) h))
told_apart (Whole m) (Whole n) h = ap (λ (s : Seen). Whole s.number) h

pub settings_fixed : Fixes ksettings.ps ksettings.r rsettings.Post (λ κs x s. x)
settings_fixed = fixed_told ksettings.ps ksettings.r rsettings.Post _ told told_apart _ (λ κs a x s p. p)

pub count_fixed : Fixes kcount.ps kcount.r rcount.Post (λ κs x s. x)
count_fixed = fixed_told kcount.ps kcount.r rcount.Post _ told told_apart _ (λ κs a x s p. p)

pub frame_fixed : Fixes kframe.ps kframe.r rframe.Post (λ κs x s. x)
frame_fixed = fixed_told kframe.ps kframe.r rframe.Post _ told told_apart _ (λ κs a x s p. p)

pub scan_fixed : Fixes kscan.ps kscan.r rscan.Post (λ κs x s. x)
scan_fixed = fixed kscan.ps kscan.r rscan.Post _ _ (λ κs a x s p. p)
