-- Lengths lent beside octets that stand end to end: what they cut, and their sum, is rules' `cut` and `total`.
use Rattle.std.specs.Prelude.{ℕ, List, Bool, not, eqb}
use Rattle.rules.specs.Packets.{total}

-- 51: lengths that don't add up to the octets lent.
abbrev pub lengths_wrong : List ℕ → ℕ → Bool
lengths_wrong lengths n = not (eqb (total lengths) n)
