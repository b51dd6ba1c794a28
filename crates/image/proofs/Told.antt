-- No two answers, with what they leave, are told alike.
use Rattle.std.specs.Prelude.{Ok, Err}
use mathlib.Core.Path.{◌≡◌, ap}
use Rattle.answer.proofs.Told.{same-fields, same-reason, accept_or_refuse, refuse_or_accept}
use Rattle.image.specs.Line.{Image}
use Rattle.image.specs.Placing.{told, Outcome, observed}
use Rattle.image.specs.Answers.{Placed}

pub told_apart : (x y : Placed) → told x ≡ told y → x ≡ y
told_apart (Ok n) (Ok m) h = ap Ok (same-fields h)
told_apart (Err n) (Err m) h = ap Err (same-reason n m h)
told_apart (Ok n) (Err m) h = accept_or_refuse h
told_apart (Err n) (Ok m) h = refuse_or_accept h

-- the answer, and the image with its list, of an outcome
pub observed_apart : {x y : Placed} {i j : Image} → observed x i ≡ observed y j → ◌≡◌ {A = Placed × Image} (x, i) (y, j)
observed_apart {x} {y} h = simp (told_apart x y (ap (λ (o : Outcome). o.answer) h), ap (λ (o : Outcome). o.image) h)
