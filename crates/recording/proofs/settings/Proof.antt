-- `recording::settings` meets its contract.
use mathlib.Core.Path.{ap, ◌∙◌}
use Rattle.recording.specs.Sections.{whole}
use Rattle.recording.proofs.Sections.{settings-above, settings-cut, settings-other, settings-short, settings-whole}
use borrow.Author.Rules.{rules}
use Rattle.recording.proofs.settings.Statement.{statement}
use Rattle.recording.proofs.settings.Tie as tie

returns-2 : tie.Need-returns-then-four-ne1
returns-2 c =
    let f = c in
    settings-other _ f.four.ensures f.if-n-lt4.false c.if-four-ne1.true

returns-3 : tie.Need-returns-then-n-lt5
returns-3 c =
    let f = c in
    settings-cut _ f.four.ensures f.if-n-lt4.false c.if-four-ne1.false c.if-n-lt5.true

returns-4 : tie.Need-returns-then-window-gt8
returns-4 c =
    let l = c in
    settings-above _ l.four.ensures l.if-four-ne1.false l.if-n-lt5.false c.if-window-gt8.true

returns-5 : tie.Need-returns
returns-5 c =
    let l = c in
    ap whole c.from.ensures ∙ settings-whole _ l.four.ensures l.if-four-ne1.false l.if-n-lt5.false
    c.if-window-gt8.false

pub settings_spec : {M : Type 1} → statement M
settings_spec =
    tie.close
    (tie.spec
    (λ c. search rules) (λ c. settings-short _ c.if-n-lt4.true) (λ c. search rules) (λ c. search rules) (λ c. search rules)
    (λ c. search rules)
    (λ c κs. search rules) returns-2 (λ c. search rules) returns-3 (λ c. search rules) returns-4
    (λ c. search rules) (λ c κs. search rules) returns-5)
