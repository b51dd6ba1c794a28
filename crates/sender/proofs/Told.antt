-- No two answers, with what they leave, are told alike; a refusal tells 0 in every other field.
use Rattle.std.specs.Prelude.{Ok, Err}
use Rattle.std.proofs.Common.{◌≡◌, refl, ap, ap₂, true≢false}
use Rattle.answer.proofs.Told.{same-fields, same-reason, accept_or_refuse, refuse_or_accept}
use Rattle.sender.specs.Send.{Lent, Outcome, told, RefusalsTellNothing}
use Rattle.sender.specs.Answers.{SendAnswer}

pub told_apart : (x y : SendAnswer) → told x ≡ told y → x ≡ y
told_apart (Ok s) (Ok r) h = ap Ok (same-fields h)
told_apart (Err n) (Err m) h = ap Err (same-reason n m h)
told_apart (Ok s) (Err m) h = accept_or_refuse h
told_apart (Err n) (Ok r) h = refuse_or_accept h

pub refusals_tell_nothing : RefusalsTellNothing
refusals_tell_nothing (Ok s) h = absurd (true≢false h)
refusals_tell_nothing (Err n) h = refl

-- the answer and all that is lent, of an outcome
pub outcome_apart : (x y : SendAnswer) (l m : Lent) → ◌≡◌ {A = Outcome} (record { answer = told x; lent = l })
    (record { answer = told y; lent = m })
    → ◌≡◌ {A = SendAnswer × Lent} (x, l) (y, m)
outcome_apart x y l m h =
    ap₂ {C = SendAnswer × Lent} (λ a b. (a, b)) (told_apart x y (ap (λ (o : Outcome). o.answer) h)) (ap (λ (o : Outcome). o.lent) h)
