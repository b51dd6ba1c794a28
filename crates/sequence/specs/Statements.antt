-- When each answer is given, for every list, APID and count.
use Rattle.std.specs.Prelude.{ℕ, ◌+◌, ◌≤◌, ◌<◌, ◌≡◌, ◌⊎◌, List, length}
use Rattle.octets.specs.Numbers.{at}
use Rattle.answer.specs.Told.{Told, accept, refuse}
use Rattle.answer.specs.Refusals.{list_short, entry, count_range}
use Rattle.counts.specs.Gap.{gap}
use Rattle.sequence.specs.Sequence.{entries, Between, unknown, restart, missing, outcome}

-- None of 44, 46 and 45 holds.
pub record Passed (apid count : ℕ) (list : List ℕ) : Type 0 where
  pub long : entries ≤ length list
  pub apids : apid ≤ 2047
  pub counts : count ≤ 16383
  pub entry : at list apid ≤ 16384

-- The answers, each with what it is given for. The APID's entry is 0 without a last count, else the last count and one more.
pub data Given (apid count : ℕ) (list : List ℕ) : Told Between → Type 0 where
  short : length list < entries → Given apid count list (refuse (missing 0) list_short)
  range : entries ≤ length list → (2047 < apid) ⊎ (16383 < count) → Given apid count list (refuse (missing 0) count_range)
  high : entries ≤ length list → apid ≤ 2047 → count ≤ 16383 → 16384 < at list apid → Given apid count list (refuse (missing 0) entry)
  first : Passed apid count list → at list apid ≡ 0 → Given apid count list (accept unknown)
  restarted : Passed apid count list → (last : ℕ) → at list apid ≡ last + 1 → count ≡ 0 → (last ≡ 16383 → ⊥) → Given apid count list
      (accept restart)
  followed : Passed apid count list → (last : ℕ) → at list apid ≡ last + 1 → (count ≡ 0 → last ≡ 16383)
      → Given apid count list (accept (missing (gap 16384 count last)))

-- One of them is given, and no other.
pub record ExactlyOne (apid count : ℕ) (list : List ℕ) : Type 0 where
  pub given : Given apid count list (outcome apid count list).answer
  pub alone : (a : Told Between) → Given apid count list a → a ≡ (outcome apid count list).answer

abbrev pub EachWhen : Type 0
EachWhen = (apid count : ℕ) (list : List ℕ) → ExactlyOne apid count list
