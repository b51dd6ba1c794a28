-- The loop has found none in the layouts before this one.
use Prim.Native.Nat.{◌-◌}
use mathlib.Core.Path.{◌≡◌}
use Rattle.layout_names.specs.Names.{names_of, in_layouts, first_repeated}
use Rattle.layout_names.proofs.Repeats.{in_layout}
use Rattle.layout_names.proofs.repeated.Given as goal

abbrev pub invariant-loop-i : goal.invariant-loop-i
invariant-loop-i l =
    first_repeated (names_of l.text l.froms l.tos) l.starts l.n ≡ in_layouts (in_layout (names_of l.text l.froms l.tos) l.starts) (l.n - l.i) l.i
