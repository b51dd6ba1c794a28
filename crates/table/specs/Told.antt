-- A reason as the code tells it: none for 0, which is no reason's number.
use Rattle.std.specs.Prelude.{ℕ, zero, suc, Option, None, Some}

abbrev pub told : ℕ → Option ℕ
told zero = None
told (suc n) = Some (suc n)
