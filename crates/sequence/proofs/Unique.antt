-- No second result satisfies the contract of `missing`: the answer and the lent list afterwards.
use Rattle.std.specs.Prelude.{Result}
use Prim.Native.Nat.{ℕ}
use mathlib.Core.List.{List}
use mathlib.Core.Path.{sym, ◌∙◌}
use Rattle.octets.specs.Unique.{Fixes}
use Rattle.answer.specs.declared.Reason.{Reason}
use Rattle.sequence.specs.declared.Gap.{Gap}
use Rattle.sequence.proofs.Told.{observed_apart}
use Rattle.sequence.proofs.missing.Kinds as kmissing
use Rattle.sequence.proofs.missing.Reads as rmissing

pub missing_fixed : Fixes kmissing.ps kmissing.r {A = Result Gap Reason × List ℕ} rmissing.Post (λ κs x s. (x, s.1.1.0.now))
missing_fixed κs a x y s t p q = observed_apart (p ∙ sym q)
