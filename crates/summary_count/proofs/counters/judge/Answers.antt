-- `counters::judge` meets its contract.
use Rattle.octets.proofs.Choices.{picked, passed}
use mathlib.Core.Path.{refl, ◌∙◌}
use Rattle.summary_count.proofs.counters.judge.Goals as goal

pub returns-then-bad : goal.returns-then-bad
returns-then-bad c =
    c.leave.ensures ∙ picked _ _ _ c.if-bad.true

pub returns-else-bad : goal.returns-else-bad
returns-else-bad c = passed _ _ _ _ c.if-bad.false refl
