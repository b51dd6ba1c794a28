-- No second result satisfies a contract of this crate's public functions.
use Prim.Native.Nat.{ℕ}
use mathlib.Core.Path.{◌≡◌, ap}
use mathlib.Core.List.{List}
use Rattle.octets.specs.Unique.{Fixes}
use Rattle.octets.proofs.Fixed.{fixed, fixed_told}
use Rattle.rawbits.specs.Reader.{Outcome, outcome}
use Rattle.rawbits.specs.declared.Scanned.{Scanned}
use Rattle.rawbits.proofs.Reader.new.Kinds as knew
use Rattle.rawbits.proofs.Reader.new.Reads as rnew
use Rattle.rawbits.proofs.Reader.scan.Kinds as kscan
use Rattle.rawbits.proofs.Reader.scan.Reads as rscan

pub new_fixed : Fixes knew.ps knew.r rnew.Post (λ κs x s. x)
new_fixed = fixed knew.ps knew.r rnew.Post _ _ (λ κs a x s p. p)

outcome_apart : (x y : Scanned × List ℕ) → outcome x.0 x.1 ≡ outcome y.0 y.1 → x ≡ y
outcome_apart x y e =
    ap {B = Scanned × List ℕ} (λ (o : Outcome).
    (record { reader = o.standing.reader; used = o.used; found = o.found }, o.standing.kept)) e

-- the result, and the octets lent afterwards
pub scan_fixed : Fixes kscan.ps kscan.r {A = Scanned × List ℕ} rscan.Post (λ κs x s. (x, s.1.1.0.now))
scan_fixed = fixed_told kscan.ps kscan.r rscan.Post _ (λ p. outcome p.0 p.1) outcome_apart _ (λ κs a x s p. p)
