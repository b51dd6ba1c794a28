-- `picture_run::turns` meets its contract.
use Prim.Native.Nat.{◌-◌, ◌≤◌}
use mathlib.Core.Path.{◌≡◌}
use lib.ListN.{length}
use Rattle.session.specs.Lent.{lent}
use Rattle.window.specs.Turns.{most}
use Rattle.picture_run.specs.Gathered.{gathered}
use Rattle.picture_run.proofs.Whole.{Gone}
use Rattle.picture_run.proofs.turns.Given as goal

abbrev pub invariant-loop-state : goal.invariant-loop-state
invariant-loop-state l = (length l.buffer ≡ 65536) × (length l.pixels ≡ length l.initial.pixels) × (length l.numbers ≡ length l.initial.numbers)
    × (length l.frames ≡ length l.initial.frames) × (length l.packets ≡ length l.initial.packets) × (length l.images ≡ length l.initial.images)
    × (length l.octets ≡ 501) × (length l.lengths ≡ 16) × (length l.firsts ≡ 16) × (l.made ≤ most)
    × Gone l.wanted l.initial.state l.initial.buffer l.initial.kept (lent l.initial.octets l.initial.lengths l.initial.firsts) (gathered l.initial.pixels l.initial.numbers l.initial.packets l.initial.images l.initial.frames) l.made
    l.state l.buffer l.kept (lent l.octets l.lengths l.firsts) (gathered l.pixels l.numbers l.packets l.images l.frames)

abbrev pub decreases-loop-state : goal.decreases-loop-state
decreases-loop-state l = most - l.made
