-- `source::stream_told` meets its contract.
use Rattle.std.proofs.Common.{ℕ, sym, ap, ◌∙◌}
use Rattle.source.specs.Scan.{stretch_taken, stream_taken}
use Rattle.source.specs.declared.Taken.TheVariants as taken
use Rattle.source.proofs.Streaming.{at-hand}
use Rattle.source.proofs.stream_told.Goals as goal

pub returns-then-size-eq0 : goal.returns-then-size-eq0
unfolding stream_taken
returns-then-size-eq0 c = sym (ap (λ (n : ℕ). stream_taken n c.args.found) c.if-size-eq0.true)

pub returns-in-Nothing : goal.returns-in-Nothing
returns-in-Nothing c = sym (at-hand _ c.if-size-eq0.false _ ∙ ap stretch_taken c.in-Nothing.is)

pub returns-in-Frame : goal.returns-in-Frame
returns-in-Frame c = sym (at-hand _ c.if-size-eq0.false _ ∙ ap stretch_taken c.in-Frame.is)

pub returns-in-Refused : goal.returns-in-Refused
returns-in-Refused c =
    ap taken.Refused c.number.ensures ∙ sym (at-hand _ c.if-size-eq0.false _ ∙ ap stretch_taken c.in-Refused.is)
