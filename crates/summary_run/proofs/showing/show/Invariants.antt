-- `showing::show` meets its contract.
use Prim.Native.Nat.{◌-◌, ◌≤◌}
use mathlib.Core.Path.{◌≡◌}
use lib.ListN.{length}
use Rattle.window.specs.Turns.{Made, most}
use Rattle.summary_count.specs.Count.{tally}
use Rattle.summary_run.specs.Shown.{text_of, ShowedAs, going_on}
use Rattle.summary_run.proofs.showing.show.Given as goal

abbrev pub invariant-loop-page : goal.invariant-loop-page
invariant-loop-page l = (length l.out ≡ length l.initial.out) × (l.made ≤ most)
    × Made going_on (ShowedAs (text_of l.csv (tally l.counts l.keys l.many)) (length l.initial.out)) l.initial.page l.made l.page

abbrev pub decreases-loop-page : goal.decreases-loop-page
decreases-loop-page l = most - l.made
