-- What the calls answer.
use Rattle.std.specs.Prelude.{Result}
use Rattle.answer.specs.declared.Reason.{Reason}
use Rattle.answer.specs.declared.Refusal.{Refusal}
use Rattle.session.specs.declared.Accepted.{Accepted}

-- What opening answers: accepted, or why it is refused.
abbrev pub OpenAnswer : Type 0
OpenAnswer = Result (Unit {0}) Reason

-- What a step answers: an accepted frame, or the refusal.
abbrev pub StepAnswer : Type 0
StepAnswer = Result Accepted Refusal
