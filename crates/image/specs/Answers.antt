-- What the calls answer.
use Rattle.std.specs.Prelude.{Result, ℕ}
use Rattle.answer.specs.declared.Reason.{Reason}

-- What placing answers: which line was placed, or why none was.
abbrev pub Placed : Type 0
Placed = Result ℕ Reason
