-- Lengths outside 23 to 274.
use Prim.Native.Nat.{ℕ, zero, suc, ◌≤◌, ◌<◌}
use mathlib.Core.Path.{◌≡◌}
use mathlib.Core.Bool.{false}
use mathlib.Core.List.{List, [], ◌∷◌}
use native.Mathlib.Omega.{arith}
use lib.ListN.{length, get_or}
use lib.Dec.{ltb}
use borrow.Author.Tests.{ltb-false}
use Rattle.octets.proofs.Tests.{or_left, or_right}
use Rattle.frame.specs.Limits.{least_length, greatest_length}
use Rattle.rawbits_writer.specs.Stream.{outside, any_outside}

pub all_short : (ns : List ℕ) → any_outside ns ≡ false → (i : ℕ) → i < length ns → get_or ns i 0 ≤ greatest_length
all_short [] e i h = absurd (omega arith)
all_short (n ∷ ns) e zero h =
    ltb-false greatest_length n (or_right (ltb n least_length) (ltb greatest_length n) (or_left (outside n) (any_outside ns) e))
all_short (n ∷ ns) e (suc i) h = all_short ns (or_right (outside n) (any_outside ns) e) i (omega arith)
