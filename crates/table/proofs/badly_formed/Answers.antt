use Rattle.table.proofs.Forming.{many, wide, counted}
use Rattle.table.proofs.badly_formed.Goals as goal

pub returns-then-columns-gt-COLUMNS : goal.returns-then-columns-gt-COLUMNS
returns-then-columns-gt-COLUMNS c = many _ _ c.four_at-columns.ensures c.if-columns-gt-COLUMNS.true

pub returns-then-widths_wrong : goal.returns-then-widths_wrong
returns-then-widths_wrong c =
    wide _ _ c.four_at-columns.ensures c.if-columns-gt-COLUMNS.false c.widths_wrong.ensures c.if-widths_wrong.true

pub returns : goal.returns
returns c =
    counted _ _ c.four_at-columns.ensures c.if-columns-gt-COLUMNS.false c.widths_wrong.ensures c.if-widths_wrong.false
    c.four_at-rows.ensures
