-- What a stream of octets holds between two marks.
use Rattle.std.specs.Prelude.{ℕ, ◌≤◌, List, [], ◌∷◌, length, take}
use Rattle.answer.specs.Told.{number_of}
use Rattle.stretch.specs.declared.Found.{Found}
use Rattle.stretch.specs.declared.Found.TheVariants.{Nothing, Frame, Refused}

-- A frame's octets, or a stretch that was refused with a number before any frame could be read.
pub data Stretch : Type 0 where
  found : List ℕ → Stretch
  unread : ℕ → Stretch

-- A reader keeps the octets of the longest frame and one more: longer ones are refused with 10 whatever follows.
abbrev pub most_kept : ℕ
most_kept = 275

abbrev pub clipped : Stretch → Stretch
clipped (found x) = found (take most_kept x)
clipped (unread n) = unread n

-- What a reader tells that keeps these octets.
abbrev pub told : Found → List ℕ → List Stretch
told Nothing kept = []
told (Frame n) kept = found (take n kept) ∷ []
told (Refused r) kept = unread (number_of r) ∷ []

-- A frame that is told is among them.
abbrev pub Fits : Found → List ℕ → Type 0
Fits Nothing kept = Unit {0}
Fits (Frame n) kept = n ≤ length kept
Fits (Refused n) kept = Unit {0}
