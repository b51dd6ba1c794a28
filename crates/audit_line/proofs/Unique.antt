-- No second result satisfies the contract of `line`.
use Prim.Native.Nat.{ℕ}
use mathlib.Core.List.{List}
use Rattle.octets.specs.Unique.{Fixes}
use Rattle.decimal.proofs.Laid.{one-put}
use Rattle.audit_line.proofs.line.Kinds as kline
use Rattle.audit_line.proofs.line.Reads as rline

-- the answer and the lent output afterwards
pub line_fixed : Fixes kline.ps kline.r {A = ℕ × List ℕ} rline.Post (λ κs x s. (x, s.0.now))
line_fixed κs a x y s t p q = one-put p q
