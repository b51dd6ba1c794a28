-- Packets as lists of octets.
use Rattle.std.specs.Prelude.{ℕ, ◌+◌, ◌-◌, ◌≤◌, ◌≡◌, List, [], ◌∷◌, ◌++◌, map, length, take, drop}
use Rattle.octets.specs.Numbers.{at, word}
use Rattle.packet.specs.Limits.{least_length, greatest_length}
use Rattle.rules.specs.Channel.{Handed}

-- A packet by the rules: 16 to 251 octets, and its C, octets 4 and 5, is its own length less 7.
pub record Good (p : List ℕ) : Type 0 where
  pub least : least_length ≤ length p
  pub greatest : length p ≤ greatest_length
  pub says : word (at p 4) (at p 5) ≡ length p - 7

abbrev pub AllGood : List (List ℕ) → Type 0
AllGood [] = Unit {0}
AllGood (p ∷ ps) = Good p × AllGood ps

-- Packets end to end.
abbrev pub joined : List (List ℕ) → List ℕ
joined [] = []
joined (p ∷ ps) = p ++ joined ps

-- The same cut again: octets into parts of these lengths, which take so many octets in all.
abbrev pub cut : List ℕ → List ℕ → List (List ℕ)
cut octets [] = []
cut octets (n ∷ ns) = take n octets ∷ cut (drop n octets) ns

abbrev pub total : List ℕ → ℕ
total [] = 0
total (n ∷ ns) = n + total ns

-- The arrival numbers of the frames with the packets' first octets.
abbrev pub firsts : List Handed → List ℕ
firsts ps = map (λ (x : Handed). x.first) ps

-- Packets handed out, without their arrival numbers.
abbrev pub bare : List Handed → List (List ℕ)
bare ps = map (λ (x : Handed). x.packet) ps
