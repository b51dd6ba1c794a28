-- Text laid into lent octets.
use Rattle.std.specs.Prelude.{ℕ, ◌+◌, ◌≤◌, ◌≡◌, List, length, ltb}
use Rattle.octets.specs.Parts.{overlay}
use Rattle.octets.specs.Pick.{pick}

-- A text of at most `most` octets was laid into out from index at on, and r is the index behind it.
pub record Laid (most : ℕ) (text out : List ℕ) (at : ℕ) (out' : List ℕ) (r : ℕ) : Type 0 where
  pub leaves : out' ≡ overlay out at text
  pub behind : r ≡ at + length text
  pub near : r ≤ at + most

-- The same wherever `most` octets have room; else out stays, and r is at.
pub record Puts (most : ℕ) (text out : List ℕ) (at : ℕ) (out' : List ℕ) (r : ℕ) : Type 0 where
  pub leaves : out' ≡ pick (ltb (length out) (at + most)) out (overlay out at text)
  pub behind : r ≡ pick (ltb (length out) (at + most)) at (at + length text)
