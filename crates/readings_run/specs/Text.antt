-- The layouts' text as it is read.
use Rattle.std.specs.Prelude.{◌≡◌, ℕ, ◌-◌, ◌<◌, ◌≤◌, Bool, not, ◌&&◌, List, [], ◌∷◌, ◌++◌, length, take, ◌==◌}
use Rattle.octets.specs.Numbers.{at}
use Rattle.octets.specs.Pick.{pick}

-- Octets whose last line has no newline.
abbrev pub unended : List ℕ → Bool
unended s = not (length s == 0) && not (at s (length s - 1) == 10)

-- The text with its last line ended.
unfoldable pub line_ended : List ℕ → List ℕ
line_ended s = pick (unended s) (s ++ (10 ∷ [])) s

-- The first n octets of a buffer become a text whose last line is ended, of so many octets, where one more has room; else all stays.
pub record Ends (text : List ℕ) (n : ℕ) (text' : List ℕ) (r : ℕ) : Type 0 where
  pub size : n < length text → r ≡ length (line_ended (take n text))
  pub ended : n < length text → take r text' ≡ line_ended (take n text)
  pub full : length text ≤ n → (r ≡ n) × (text' ≡ text)
