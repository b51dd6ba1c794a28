-- `recording::Reader::frames` meets its contract.
use mathlib.Core.Path.{refl, ◌∙◌}
use Rattle.recording.proofs.Scanning.{scan-empty, scan-more, still, small-frame, told-whole, told-bad, told-missing}
use native.Mathlib.Omega.{arith}
use borrow.Author.Rules.{rules}
use Rattle.recording.proofs.Reader.frames.Statement.{statement}
use Rattle.recording.proofs.Reader.frames.Tie as tie

returns : tie.Need-returns-then-window-eq0
returns c = scan-empty _ _ c.if-left-eq0.true c.if-window-eq0.true c.waits.ensures

returns-2 : tie.Need-returns-then-left-eq0
returns-2 c = scan-more _ _ c.if-left-eq0.true c.if-window-eq0.false c.stopped.ensures

add-to : tie.Need-overflow_add-to
add-to c = omega (arith, small-frame _ c.in-Whole.is c.frame.ensures)

returns-3 : tie.Need-returns-in-Missing
returns-3 c =
    let m = c in
    told-missing _ refl (m.frame.ensures ∙ still _ _ m.if-left-eq0.false) c.in-Missing.is c.waits-in-Missing.ensures

returns-4 : tie.Need-returns-in-Bad
returns-4 c =
    let m = c in
    told-bad _ refl (m.frame.ensures ∙ still _ _ m.if-left-eq0.false) c.in-Bad.is c.stopped-in-Bad.ensures

returns-5 : tie.Need-returns-in-Whole
returns-5 c =
    let m = c in
    told-whole _ refl (m.frame.ensures ∙ still _ _ m.if-left-eq0.false) c.in-Whole.is

pub frames_spec : {M : Type 1} → statement M
frames_spec =
    tie.close
    (tie.spec
    (λ c κs. search rules) returns (λ c κs. search rules) returns-2 (λ c κs. search rules) (λ c. search rules)
    (λ c κs. search rules) (λ c. search rules) (λ c κs. search rules) (λ c. search rules) add-to
    (λ c. search rules) returns-3 returns-4 returns-5)
