-- `images::place` meets its contract.
use Prim.Native.Nat.{◌-◌}
use mathlib.Core.Path.{◌≡◌}
use Rattle.summary_count.specs.Count.{place_from, image_place}
use Rattle.summary_count.proofs.images.place.Given as goal

abbrev pub invariant-loop-i : goal.invariant-loop-i
invariant-loop-i l = image_place l.key l.counts ≡ place_from (1024 - l.i) l.i l.key l.counts
