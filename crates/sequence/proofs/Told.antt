-- No two answers, with what they leave, are told alike.
use Rattle.std.specs.Prelude.{Result, Ok, Err}
use Prim.Native.Nat.{ℕ}
use native.Mathlib.Omega.{arith}
use mathlib.Core.Path.{◌≡◌, refl, sym, ap, ◌∙◌}
use mathlib.Core.Bool.{true, true≢false}
use mathlib.Core.List.{List}
use Rattle.answer.specs.Told.{Told}
use Rattle.answer.specs.declared.Reason.{Reason}
use Rattle.answer.proofs.Told.{same-fields, same-reason}
use Rattle.sequence.specs.Sequence.{Between, unknown, restart, missing, told, Outcome, observed}
use Rattle.sequence.specs.declared.Gap.{Gap}
use Rattle.sequence.specs.declared.Gap.TheVariants.{Unknown, Restart, Missing}

-- which of the three it is
abbrev kind : Between → ℕ
kind unknown = 0
kind restart = 1
kind (missing n) = 2

other : {A : Type 0} {x y : Between} → x ≡ y → (kind x ≡ kind y → ⊥) → A
other e n = absurd (n (ap kind e))

same-missing : {n m : ℕ} → missing n ≡ missing m → n ≡ m
same-missing e = cc

-- the gaps themselves
gap_apart : (x y : Gap) → told (Ok x) ≡ told (Ok y) → x ≡ y
gap_apart Unknown Unknown h = refl
gap_apart Restart Restart h = refl
gap_apart Unknown Restart h = other (same-fields h) (λ z. omega arith)
gap_apart Restart Unknown h = other (same-fields h) (λ z. omega arith)
gap_apart Unknown (Missing m) h = other (same-fields h) (λ z. omega arith)
gap_apart (Missing n) Unknown h = other (same-fields h) (λ z. omega arith)
gap_apart Restart (Missing m) h = other (same-fields h) (λ z. omega arith)
gap_apart (Missing n) Restart h = other (same-fields h) (λ z. omega arith)
gap_apart (Missing n) (Missing m) h = ap Missing (same-missing (same-fields h))

accepted : (g : Gap) → (told (Ok g)).accepted ≡ true
accepted Unknown = refl
accepted Restart = refl
accepted (Missing n) = refl

-- a gap is accepted, and a refusal is not
gap-or-refused : {A : Type 0} (g : Gap) (r : Reason) → told (Ok g) ≡ told (Err r) → A
gap-or-refused g r h = absurd (true≢false (sym (accepted g) ∙ ap (λ (t : Told Between). t.accepted) h))

pub told_apart : (x y : Result Gap Reason) → told x ≡ told y → x ≡ y
told_apart (Ok g) (Ok k) h = ap Ok (gap_apart g k h)
told_apart (Err n) (Err m) h = ap Err (same-reason n m h)
told_apart (Ok g) (Err r) h = gap-or-refused g r h
told_apart (Err r) (Ok g) h = gap-or-refused g r (sym h)

-- the answer and the list of an outcome
pub observed_apart : {x y : Result Gap Reason} {l m : List ℕ} → observed x l ≡ observed y m → ◌≡◌ {A = Result Gap Reason × List ℕ} (x, l) (y, m)
observed_apart {x} {y} h =
    simp (told_apart x y (ap (λ (o : Outcome). o.answer) h), ap (λ (o : Outcome). o.list) h)
