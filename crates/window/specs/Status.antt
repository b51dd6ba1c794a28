-- A program's exit status.
use Rattle.std.specs.Prelude.{ℤ, pos}

-- All that was asked was done.
abbrev pub done : ℤ
done = pos 0

-- The verdict went against the input.
abbrev pub against : ℤ
against = pos 1

-- The program was used wrongly, or the system failed.
abbrev pub broken : ℤ
broken = pos 2
