-- `image::bring` meets its contract.
use Rattle.image.proofs.Brought.{not_line_lem, other-image, this_image, line-fits}
use borrow.Enum.Refused.{opened}
use Rattle.image.proofs.bring.Goals as goal

pub returns-in_default : goal.returns-in_default
returns-in_default c = not_line_lem _ _ _ _ _ (opened c.in_default.in_default-own.keys2)

pub returns-then-l-wanted : goal.returns-then-l-wanted
returns-then-l-wanted c = other-image _ _ _ _ c.in-Line.is c.if-l-wanted.true

pub place_line-requires : goal.place_line-requires
place_line-requires c =
    line-fits _ _ 0 _ c.in-Line.is c.pixels.ensures c.requires

pub returns : goal.returns
returns c =
    this_image _ _ _ _ c.in-Line.is c.if-l-wanted.false c.pixels.ensures
    c.place_line.ensures
