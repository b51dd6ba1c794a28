-- `source::Source::cut` meets its contract.
use mathlib.Core.Path.{sym, ap, ◌∙◌}
use mathlib.Core.List.{[]}
use borrow.Author.Rules.{rules}
use Rattle.recording.specs.Reader.{state_of}
use Rattle.recording.specs.declared.Reader.{Reader}
use Rattle.source.specs.Found.{is_cut, cut_at}
use Rattle.source.proofs.Source.cut.Statement.{statement}
use Rattle.source.proofs.Source.cut.Tie as tie

returns-3 : tie.Need-returns-in-Frames
returns-3 c =
    let c4 = c in
    sym (ap cut_at c4.in-Recording.is ∙ ap (λ (a : Reader). is_cut (state_of a [])) c.in-Frames.is)

pub cut_spec : {M : Type 1} → statement M
cut_spec =
    tie.close
    (tie.spec
    (λ c. search rules) (λ c. search rules) (λ c. search rules) (λ c. search rules) (λ c. search rules)
    (λ c. search rules) (λ c. search rules) (λ c. search rules) (λ c. search rules) returns-3 (λ c. search rules) (λ c. search rules)
    (λ c. search rules))
