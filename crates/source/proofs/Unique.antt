-- No second result satisfies a contract of this crate's public functions.
use mathlib.Core.Path.{◌≡◌, sym, ap, ◌∙◌}
use mathlib.Core.List.{List}
use Prim.Native.Nat.{ℕ}
use Rattle.octets.specs.Unique.{Fixes}
use Rattle.octets.proofs.Fixed.{fixed}
use Rattle.source.specs.Scan.{Scans}
use Rattle.source.specs.declared.Source.{Source}
use Rattle.source.specs.declared.Scanned.{Scanned}
use Rattle.source.proofs.Source.recording.Kinds as krecording
use Rattle.source.proofs.Source.recording.Reads as rrecording
use Rattle.source.proofs.Source.kiss.Kinds as kkiss
use Rattle.source.proofs.Source.kiss.Reads as rkiss
use Rattle.source.proofs.Source.bits.Kinds as kbits
use Rattle.source.proofs.Source.bits.Reads as rbits
use Rattle.source.proofs.Source.scan.Kinds as kscan
use Rattle.source.proofs.Source.scan.Reads as rscan
use Rattle.source.proofs.Source.cut.Kinds as kcut
use Rattle.source.proofs.Source.cut.Reads as rcut

pub recording_fixed : Fixes krecording.ps krecording.r rrecording.Post (λ κs x s. x)
recording_fixed = fixed krecording.ps krecording.r rrecording.Post _ _ (λ κs a x s p. p)

pub kiss_fixed : Fixes kkiss.ps kkiss.r rkiss.Post (λ κs x s. x)
kiss_fixed = fixed kkiss.ps kkiss.r rkiss.Post _ _ (λ κs a x s p. p)

pub bits_fixed : Fixes kbits.ps kbits.r rbits.Post (λ κs x s. x)
bits_fixed = fixed kbits.ps kbits.r rbits.Post _ _ (λ κs a x s p. p)

-- the answer and the octets kept afterwards
one-scan : {s : Source} {kept w : List ℕ} {r q : Scanned} {kept₁ kept₂ : List ℕ} → Scans s kept w r kept₁ → Scans s kept w q kept₂
    → ◌≡◌ {A = Scanned × List ℕ} (r, kept₁) (q, kept₂)
one-scan {q = q} {kept₁} a b =
    ap (λ (x : Scanned). (x, kept₁)) (a.answers ∙ sym b.answers) ∙ ap (λ (x : List ℕ). (q, x)) (a.keeps ∙ sym b.keeps)

pub scan_fixed : Fixes kscan.ps kscan.r {A = Scanned × List ℕ} rscan.Post (λ κs x s. (x, s.1.1.0.now))
scan_fixed κs a x y s t p q = one-scan p q

pub cut_fixed : Fixes kcut.ps kcut.r rcut.Post (λ κs x s. x)
cut_fixed = fixed kcut.ps kcut.r rcut.Post _ _ (λ κs a x s p. p)
