-- What the calls answer.
use Rattle.std.specs.Prelude.{Result, ℕ}
use Rattle.answer.specs.declared.Reason.{Reason}

-- What an export answers: how many octets it wrote, or why it is refused.
abbrev pub Exported : Type 0
Exported = Result ℕ Reason
