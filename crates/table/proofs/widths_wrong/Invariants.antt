-- The columns before number i have right widths.
use Rattle.std.proofs.Common.{◌≡◌, ◌+◌, ◌-◌, ◌*◌, drop}
use Rattle.table.specs.Table.{columns_in, widths_wrong}
use Rattle.table.proofs.widths_wrong.Given as goal

abbrev pub invariant-loop-i : goal.invariant-loop-i
invariant-loop-i l =
    widths_wrong (columns_in l.columns (drop 4 l.head)) ≡ widths_wrong (columns_in (l.columns - l.i) (drop (4 + 2 * l.i) l.head))
