-- Lost frames, where they are known.
use Rattle.std.specs.Prelude.{Option, ℕ}

-- How many frames were lost; none where there is no last count to compare with.
abbrev pub Loss : Type 0
Loss = Option ℕ
