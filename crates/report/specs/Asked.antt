-- What the crate's private functions ask of their callers.
use Rattle.std.specs.Prelude.{ℕ, ◌≤◌, List, length}
use Rattle.packet.specs.Limits.{longest_source}

-- Numbers in the first two strings, and no string longer than any source data.
pub record Short (a b c d : List ℕ) : Type 0 where
  pub first : length a ≤ 4
  pub second : length b ≤ 4
  pub third : length c ≤ longest_source
  pub fourth : length d ≤ longest_source
