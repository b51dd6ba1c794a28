-- What an export's answer tells.
use Rattle.std.specs.Prelude.{Ok, Err}
use mathlib.Core.Path.{◌≡◌, refl, ap}
use mathlib.Core.Bool.{true≢false}
use Rattle.answer.proofs.Told.{same-fields, same-reason, accept_or_refuse, refuse_or_accept}
use Rattle.kiss_writer.specs.Export.{told, RefusalsTellNothing}
use Rattle.kiss_writer.specs.Answers.{Exported}

-- a refusal tells the length 0
pub refusals_tell_nothing : RefusalsTellNothing
refusals_tell_nothing (Ok n) h = absurd (true≢false h)
refusals_tell_nothing (Err r) h = refl

-- no two answers are told alike
pub told_apart : (x y : Exported) → told x ≡ told y → x ≡ y
told_apart (Ok n) (Ok m) h = ap Ok (same-fields h)
told_apart (Err r) (Err q) h = ap Err (same-reason r q h)
told_apart (Ok n) (Err q) h = accept_or_refuse h
told_apart (Err r) (Ok m) h = refuse_or_accept h
