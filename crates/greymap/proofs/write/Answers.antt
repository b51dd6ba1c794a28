-- `greymap::write` meets its contract.
use mathlib.Core.Path.{sym, ◌∙◌}
use Rattle.image.specs.Line.{image_of}
use Rattle.greymap.specs.Writing.{outputs}
use Rattle.greymap.proofs.Wrote.{room_of, image-short, grey-short, text-short, both-written}
use Rattle.greymap.proofs.write.Goals as goal

pub returns-then-short : goal.returns-then-short
returns-then-short c = image-short _ _ c.short.ensures c.if-short.true

pub returns-then-grey-lt-OCTETS : goal.returns-then-grey-lt-OCTETS
returns-then-grey-lt-OCTETS c =
    let a = c.args in
    grey-short (image_of a.image.now a.lines.now) (outputs a.grey.now a.text.now) c.short.ensures
    c.if-short.false c.if-grey-lt-OCTETS.true

pub put_text-n-requires : goal.put_text-n-requires
put_text-n-requires c =
    let a = c.args in
    (room_of (image_of a.image.now a.lines.now) (sym c.short.ensures ∙ c.if-short.false)).lines

pub returns-then-text-n : goal.returns-then-text-n
returns-then-text-n c =
    let a = c.args in
    text-short (image_of a.image.now a.lines.now) (outputs a.grey.now a.text.now)
    c.short.ensures c.if-short.false
    c.put_text-n.ensures c.put_text-n.auto.text c.if-grey-lt-OCTETS.false c.if-text-n.true

pub draw-requires : goal.draw-requires
draw-requires c =
    let a = c.args in
    record {
      whole = room_of (image_of a.image.now a.lines.now)
          (sym c.short.ensures ∙ c.if-short.false);
      room = c.if-grey-lt-OCTETS.false;
    }

pub returns : goal.returns
returns c =
    let a = c.args in
    both-written (image_of a.image.now a.lines.now) (outputs a.grey.now a.text.now)
    c.short.ensures c.if-short.false
    c.put_text-n.ensures c.put_text-n.auto.text c.if-grey-lt-OCTETS.false c.if-text-n.false c.draw.ensures
