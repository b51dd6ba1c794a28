-- What the calls answer.
use Rattle.std.specs.Prelude.{Result}
use Rattle.answer.specs.declared.Reason.{Reason}
use Rattle.sender.specs.declared.Sent.{Sent}

-- What a call answers: what it made, or why it is refused.
abbrev pub SendAnswer : Type 0
SendAnswer = Result Sent Reason
