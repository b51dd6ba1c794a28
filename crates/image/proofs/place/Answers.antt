-- `image::place` meets its contract.
use mathlib.Core.Path.{sym, ap, ◌∙◌}
use mathlib.Core.Bool.{Bool}
use lib.ListN.{length}
use lib.Dec.{ltb}
use borrow.Author.Tests.{ne_eqb, ltb-false}
use Rattle.std.proofs.lemmas.Result.{err_from_is_err_and}
use Rattle.octets.proofs.Choices.{answers, passed}
use Rattle.octets.proofs.Tests.{tests, or_left, or_right}
use Rattle.report.specs.Report.{told}
use Rattle.image.specs.Line.{image_lines, image_octets}
use Rattle.image.specs.Placing.{outcome}
use Rattle.image.proofs.Brings.{fits}
use Rattle.image.proofs.Brought.{report-accepted, report-refused}
use Rattle.image.proofs.place.Goals as goal

pub returns-then-image-lines : goal.returns-then-image-lines
unfolding outcome
returns-then-image-lines c = search (answers, tests)

pub returns-then-arrival-eq0 : goal.returns-then-arrival-eq0
unfolding outcome
returns-then-arrival-eq0 c = search (answers, tests)

pub bring-requires : goal.bring-requires
bring-requires c =
    let f = c.if-image-lines.false in
    let a = c.args in
    let short : Bool = ltb (length a.image.now) image_octets in
    let few : Bool = ltb (length a.lines.now) image_lines in
    record {
      fits = fits _ _ (sym c.read.ensures ∙ ap told c.in_ok-report.was);
      room = record { pixels = ltb-false _ _ (or_left short few f); lines = ltb-false _ _ (or_right short few f) };
    }

pub returns : goal.returns
unfolding outcome
returns c =
    passed _ _ _ _ c.if-image-lines.false
    (passed _ _ _ _ (ne_eqb _ _ c.if-arrival-eq0.false)
    (report-accepted _ _ _ _ c.read.ensures c.in_ok-report.was c.bring.ensures))

pub returns-in_err-report : goal.returns-in_err-report
unfolding outcome
returns-in_err-report c =
    let p = err_from_is_err_and c.from_residual.result c.from_residual.ensures.1 in
    passed _ _ _ _ c.if-image-lines.false
    (passed _ _ _ _ (ne_eqb _ _ c.if-arrival-eq0.false)
    (rw (p.1, p.2) (report-refused _ _ _ _ c.read.ensures c.in_err-report.was)))
