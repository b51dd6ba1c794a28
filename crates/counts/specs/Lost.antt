-- Lost frames, for channel and master alike.
use Rattle.std.specs.Prelude.{ℕ, Bool, true, false, Some, None}
use Rattle.std.proofs.Math.Option.{Option, none, some}
use Rattle.counts.specs.Gap.{gap}
use Rattle.counts.specs.Loss.{Loss}

-- The last count, if a frame was heard.
abbrev pub last_of : Bool → ℕ → Option ℕ
last_of true n = some n
last_of false n = none

-- (count - last - 1) modulo 256; unknown at the first frame.
unfoldable pub lost_since : Option ℕ → ℕ → Loss
lost_since none count = None
lost_since (some last) count = Some (gap 256 count last)

-- The number that the rules go on with: unknown is taken as 0.
abbrev pub number : Loss → ℕ
number None = 0
number (Some n) = n
