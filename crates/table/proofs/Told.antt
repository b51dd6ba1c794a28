-- What a told number says.
use Rattle.std.specs.Prelude.{ℕ, zero, suc, ◌≡◌, None, Some}
use mathlib.Core.Path.{refl}
use Rattle.table.specs.Told.{told}

pub told-none : (k : ℕ) → None ≡ told k → k ≡ 0
told-none zero e = refl
told-none (suc k) e = cc

pub told-some : (n k : ℕ) → Some n ≡ told k → (n ≡ k) × (n ≡ 0 → ⊥)
told-some n zero e = cc
told-some n (suc k) e = (cc, λ z. cc)
