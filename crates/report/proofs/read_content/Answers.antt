-- `report::read_content` meets its contract.
use Rattle.std.proofs.Common.{◌≡◌, refl, arith, Some, None}
use Rattle.std.proofs.lemmas.Result.{err_from_is_err_and}
use Rattle.answer.specs.declared.Reason.TheVariants.{Pair}
use Rattle.report.proofs.Read.{pair-unknown, length-refused, enough, line_refused, report-read, above}
use Rattle.report.proofs.read_content.Goals as goal

pub returns-in_err-pair : goal.returns-in_err-pair
returns-in_err-pair c =
    let p = err_from_is_err_and c.from_residual.result c.from_residual.ensures.1 in
    let none : c.find.result ≡ None = grind arith in
    let reason : c.in_err-pair.field-0.0 ≡ Pair = grind arith in
    rw (p.1, p.2, reason) (pair-unknown _ _ c.find.ensures none)

pub returns-then-p-pair : goal.returns-then-p-pair
returns-then-p-pair c =
    let some : c.find.result ≡ Some c.in_ok-pair.pair = grind arith in
    length-refused _ _ c.find.ensures some c.if-p-pair.true

pub returns-then-image_line-octet : goal.returns-then-image_line-octet
returns-then-image_line-octet c =
    let some : c.find.result ≡ Some c.in_ok-pair.pair = grind arith in
    line_refused _ _ c.find.ensures some c.if-p-pair.false
    (above _ _ (c.image_line.ensures _ refl refl) c.octet.ensures c.if-image_line-octet.true)

pub content_of-content-requires : goal.content_of-content-requires
content_of-content-requires c =
    let a = c.args in
    let some : c.find.result ≡ Some c.in_ok-pair.pair = grind arith in
    enough a.p a.s.now c.find.ensures some c.if-p-pair.false

pub returns : goal.returns
returns c =
    let some : c.find.result ≡ Some c.in_ok-pair.pair = grind arith in
    report-read _ _ c.find.ensures some c.if-p-pair.false
    (above _ _ (c.image_line.ensures _ refl refl) c.octet.ensures c.if-image_line-octet.false) c.content_of-content.ensures
