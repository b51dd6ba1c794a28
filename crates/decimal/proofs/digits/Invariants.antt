use Rattle.std.proofs.Common.{◌≡◌, length}
use Rattle.decimal.specs.Text.{decimal}
use Rattle.decimal.proofs.Decimal.{Putting}
use Rattle.decimal.proofs.digits.Given as goal

abbrev pub invariant-loop-i : goal.invariant-loop-i
invariant-loop-i l = (length l.out ≡ length l.initial.out) × Putting (decimal l.n) l.initial.out l.at l.i l.rest l.out
