-- No second result satisfies a contract of this crate's public functions.
use Prim.Native.Nat.{ℕ}
use mathlib.Core.Path.{sym, ap, ◌∙◌}
use mathlib.Core.List.{List}
use Rattle.octets.specs.Unique.{Fixes}
use Rattle.octets.proofs.Fixed.{fixed}
use Rattle.kiss.specs.Reader.{Outcome}
use Rattle.kiss.specs.declared.Scanned.{Scanned}
use Rattle.kiss.proofs.Reader.new.Kinds as knew
use Rattle.kiss.proofs.Reader.new.Reads as rnew
use Rattle.kiss.proofs.Reader.scan.Kinds as kscan
use Rattle.kiss.proofs.Reader.scan.Reads as rscan

pub new_fixed : Fixes knew.ps knew.r rnew.Post (λ κs x s. x)
new_fixed = fixed knew.ps knew.r rnew.Post _ _ (λ κs a x s p. p)

-- the answer and the octets kept are told by the outcome
abbrev both : Outcome → Scanned × List ℕ
both o = (record { reader = o.standing.reader; used = o.used; found = o.found }, o.standing.kept)

pub scan_fixed : Fixes kscan.ps kscan.r {A = Scanned × List ℕ} rscan.Post (λ κs x s. (x, s.1.1.0.now))
scan_fixed κs a x y s t p q = ap both (p ∙ sym q)
