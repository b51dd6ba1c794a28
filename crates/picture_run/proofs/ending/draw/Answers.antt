-- `ending::draw` meets its contract.
use Rattle.image.specs.Line.{image_of}
use Rattle.greymap.specs.Writing.{outputs}
use Rattle.picture_run.proofs.Drawing.{drawn, never_refused}
use Rattle.picture_run.proofs.ending.draw.Goals as goal

pub returns-in-Ok : goal.returns-in-Ok
returns-in-Ok c =
    let a = c.args in
    drawn (image_of a.pixels.now a.numbers.now) (outputs a.out.now a.text.now) c.requires c.in-Ok.is
    c.write.ensures

pub returns-in-Err : goal.returns-in-Err
returns-in-Err c =
    let a = c.args in
    absurd (never_refused (image_of a.pixels.now a.numbers.now) (outputs a.out.now a.text.now) c.requires
    c.in-Err.is c.write.ensures)
