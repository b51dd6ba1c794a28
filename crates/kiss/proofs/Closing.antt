-- What is told behind a 0xC0.
use Prim.Native.Nat.{ℕ, ◌+◌, min}
use mathlib.Core.Path.{◌≡◌, ap, ◌∙◌}
use mathlib.Core.List.{List}
use mathlib.Core.Bool.{true, false, ◌||◌}
use lib.ListN.{length}
use Rattle.octets.proofs.Choices.{picked, passed}
use Rattle.answer.specs.declared.Reason.TheVariants.{Escape, TypeOctet}
use Rattle.stretch.specs.declared.Found.{Found}
use Rattle.stretch.specs.declared.Found.TheVariants.{Frame, Refused}
use Rattle.kiss.specs.Reader.{scanned_by, outcome, tells, frame_length, sealed, closed}
use Rattle.kiss.specs.declared.Reader.{Reader}
use Rattle.kiss.specs.declared.Scanned.{Scanned}

-- what is told by a reader that stands so
pub told_by_lem : {a b : Reader} {used : ℕ} {f : Found} {r : Scanned} (kept : List ℕ) → b ≡ a → r ≡ scanned_by b used f
    → outcome r kept ≡ outcome (scanned_by a used f) kept
told_by_lem {used = used} {f} kept e d =
    ap (λ (x : Scanned). outcome x kept) d ∙ ap (λ (x : Reader). outcome (scanned_by x used f) kept) e

module _ (a : Reader) (used : ℕ) (kept : List ℕ) where
  pub closes_18 : (a.wrong || a.escaping) ≡ true → tells (Refused Escape) used kept ≡ closed a used kept
  unfolding closed
  closes_18 h = picked _ _ _ h

  pub closes_19 : (a.wrong || a.escaping) ≡ false → a.other ≡ true → tells (Refused TypeOctet) used kept ≡ closed a used kept
  unfolding closed
  closes_19 h k = passed _ _ _ _ h (picked _ _ _ k)

  pub closes_frame : (a.wrong || a.escaping) ≡ false → a.other ≡ false → {m n : ℕ} {kept' : List ℕ}
      → m ≡ frame_length a.count → (n ≡ min (m + 2) (length kept)) × (kept' ≡ sealed m kept)
      → tells (Frame n) used kept' ≡ closed a used kept
  unfolding closed
  closes_frame h k e s = passed _ _ _ _ h (passed _ _ _ _ k (rw (s.0, s.1, e)))
