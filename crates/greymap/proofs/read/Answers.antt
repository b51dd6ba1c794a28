-- `greymap::read` meets its contract: each return passes the refusals before it.
use Rattle.std.proofs.Common.{◌≡◌, false, refl, ◌++◌, sym, ap, ◌∙◌, arith, drop, List, ℕ, Some, None}
use Rattle.std.proofs.lemmas.Result.{err_from_is_err_and}
use lib.Seq.{length-take-le}
use Rattle.octets.proofs.Choices.{answers}
use Rattle.answer.specs.declared.Reason.TheVariants.{LineList}
use Rattle.image.specs.Line.{image_of, image_lines}
use Rattle.greymap.specs.Reading.{greymap_wrong, reading}
use Rattle.greymap.proofs.Wrote.{room_of}
use Rattle.greymap.proofs.Accepted.{unlisted, picture, unnumbered, all_read}
use Rattle.greymap.proofs.read.Goals as goal

pub returns-then-short : goal.returns-then-short
unfolding reading
returns-then-short c = search answers

pub returns-then-greymap_wrong : goal.returns-then-greymap_wrong
unfolding reading
returns-then-greymap_wrong c = search answers

pub returns-in_err-list : goal.returns-in_err-list
returns-in_err-list c =
    let p = err_from_is_err_and c.from_residual.result c.from_residual.ensures.1 in
    let none : c.numbers_in.result ≡ None = grind arith in
    let right : greymap_wrong c.args.grey.now ≡ false = search answers in
    let reason : c.in_err-list.field-0.0 ≡ LineList = grind arith in
    rw (p.1, p.2, reason)
    (unlisted _ _ _ c.short.ensures c.if-short.false refl right c.numbers_in.ensures none)

pub unnumbered_wrong-requires : goal.unnumbered_wrong-requires
unnumbered_wrong-requires c =
    let some : c.numbers_in.result ≡ Some c.in_ok-list.list = grind arith in
    picture _ _ (image_of c.args.image.now c.args.lines.now) c.short.ensures c.if-short.false c.greymap_wrong.ensures
    c.if-greymap_wrong.false c.numbers_in.ensures some

pub returns-then-unnumbered_wrong : goal.returns-then-unnumbered_wrong
returns-then-unnumbered_wrong c =
    let some : c.numbers_in.result ≡ Some c.in_ok-list.list = grind arith in
    unnumbered _ _ _ c.short.ensures c.if-short.false
    c.greymap_wrong.ensures c.if-greymap_wrong.false c.numbers_in.ensures some
    c.unnumbered_wrong.ensures c.if-unnumbered_wrong.true

pub slice_bounds-copy_from_slice-end-2 : goal.slice_bounds-copy_from_slice-end-2
slice_bounds-copy_from_slice-end-2 c =
    let room = room_of (image_of c.args.image.now c.args.lines.now) (sym c.short.ensures ∙ c.if-short.false) in
    sym (length-take-le image_lines c.args.lines.now room.lines)

pub copy_from_slice-requires : goal.copy_from_slice-requires
copy_from_slice-requires c =
    let some : c.numbers_in.result ≡ Some c.in_ok-list.list = grind arith in
    let long = picture _ _ (image_of c.args.image.now c.args.lines.now) c.short.ensures c.if-short.false c.greymap_wrong.ensures
    c.if-greymap_wrong.false c.numbers_in.ensures some in
    let room = room_of (image_of c.args.image.now c.args.lines.now) (sym c.short.ensures ∙ c.if-short.false) in
    length-take-le image_lines c.args.lines.now room.lines ∙ sym long.lines

pub returns : goal.returns
returns c =
    let some : c.numbers_in.result ≡ Some c.in_ok-list.list = grind arith in
    let long = picture _ _ (image_of c.args.image.now c.args.lines.now) c.short.ensures c.if-short.false c.greymap_wrong.ensures
    c.if-greymap_wrong.false c.numbers_in.ensures some in
    all_read _ _ _ c.short.ensures c.if-short.false
    c.greymap_wrong.ensures c.if-greymap_wrong.false c.numbers_in.ensures some
    c.unnumbered_wrong.ensures c.if-unnumbered_wrong.false
    c.part.ensures c.put.ensures
    (ap (λ (l : List ℕ). l ++ drop 120 c.args.lines.now) c.copy_from_slice.ensures.after
    ∙ ap (λ (n : ℕ). c.in_ok-list.list ++ drop n c.args.lines.now) (sym long.lines))
