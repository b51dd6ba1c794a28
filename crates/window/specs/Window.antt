-- The octets at hand, and a read that keeps them.
use Rattle.std.specs.Prelude.{ℕ, ◌-◌, ◌≤◌, ◌<◌, ◌≡◌, List, ◌++◌, true, false, length, take, drop}
use Rattle.window.specs.declared.Refilled.{Refilled}
use Rattle.window.specs.declared.Written.{Written}

-- The octets of the input from at up to end, as far as they are there.
abbrev pub hand : List ℕ → ℕ → ℕ → List ℕ
hand input at end = take (end - at) (drop at input)

-- The system was asked. What was at hand is at hand still, and behind it a piece that came; a read that did not fail had room.
pub record Refills (input : List ℕ) (at end : ℕ) (input' : List ℕ) (r : Refilled) : Type 0 where
  pub piece : List ℕ
  pub window : hand input' 0 r.have ≡ hand input at end ++ piece
  pub many : length piece ≡ r.came
  pub inside : r.have ≤ length input'
  pub tried : r.tried ≡ true
  pub room : r.failed ≡ false → length (hand input at end) < length input'

-- Nothing was read.
abbrev pub unread : Refilled
unread = record { have = 0; came = 0; failed = false; tried = false }

-- Nothing was written.
abbrev pub unwritten : Written
unwritten = record { size = 0; failed = false }
