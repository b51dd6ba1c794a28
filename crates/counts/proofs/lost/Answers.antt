use Rattle.std.proofs.Common.{ℕ, Bool, true, false, ◌≡◌, refl, ◌∙◌}
use Rattle.std.specs.Bool.{then_some}
use Rattle.counts.specs.Gap.{gap}
use Rattle.counts.specs.Lost.{last_of, lost_since}
use Rattle.counts.proofs.lost.Goals as goal

since : (heard : Bool) (last count : ℕ) → then_some heard (gap 256 count last) ≡ lost_since (last_of heard last) count
unfolding lost_since
since true last count = refl
since false last count = refl

pub returns : goal.returns
returns c = c.then_some.ensures ∙ rw c.gap.ensures (since c.args.heard c.args.last c.args.count)
