-- What was lost between two counts that go up by one modulo m.
use Rattle.std.specs.Prelude.{◌≡◌, ℕ, ◌+◌, ◌-◌, ◌%◌, ◌<◌, ◌≤◌}

-- (count - last - 1) modulo m: m - 1 less the last count is what is to be added for the difference.
abbrev pub gap : ℕ → ℕ → ℕ → ℕ
gap m count last = (count % m + (m - 1 - last % m)) % m

-- It is the one number below m that leads from the last count, by one more, to the count.
pub record Leads (m count last g : ℕ) : Type 0 where
  pub below : g < m
  pub leads : (last + 1 + g) % m ≡ count % m

abbrev pub GapLeads : Type 0
GapLeads = (m count last : ℕ) → 0 < m → Leads m count last (gap m count last)

abbrev pub GapAlone : Type 0
GapAlone = (m count last g : ℕ) → 0 < m → Leads m count last g → g ≡ gap m count last

-- A count k frames on gives k - 1, also across the wrap.
abbrev pub GapOn : Type 0
GapOn = (m last k : ℕ) → 1 ≤ k → k ≤ m → gap m ((last + k) % m) last ≡ k - 1
