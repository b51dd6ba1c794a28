-- What is found in a recording's octets, as far as they have come.
use Rattle.std.specs.Prelude.{ℕ, zero, suc, ◌+◌, List, [], ◌∷◌, ◌++◌, length, take, drop, eqb}
use Rattle.octets.specs.Pick.{pick}
use Rattle.recording.specs.Sections.{settings_at, count_at, frame_at, Seen}

-- How far a recording is read, and the octets read and not yet used.
pub data State : Type 0 where
  settings : List ℕ → State
  count : List ℕ → State
  -- so many frames are still to come
  frames : ℕ → List ℕ → State
  bad : State

-- What was found: t once it is accepted, the frames, and the state after them.
pub record Found : Type 0 where
  pub t : List ℕ
  pub frames : List (List ℕ)
  pub state : State

abbrev pub nothing : State → Found
nothing s = record { t = []; frames = []; state = s }

-- What was found first, then what was found after it.
abbrev pub joined : Found → Found → Found
joined a b = record { t = a.t ++ b.t; frames = a.frames ++ b.frames; state = b.state }

-- Nothing found yet: the state stays, or is bad if what stands there is.
abbrev pub waiting : Seen → State → Found
waiting s here = nothing (pick s.bad bad here)

-- Each whole frame at the start of w, n at most. Octets after the last frame are bad.
unfoldable pub frames_in : ℕ → List ℕ → Found
frames_in zero w = nothing (pick (eqb (length w) 0) (frames 0 w) bad)
frames_in (suc n) w =
    pick (frame_at w).whole
    (joined (record { t = []; frames = take (frame_at w).number (drop 2 w) ∷ []; state = bad })
    (frames_in n (drop (2 + (frame_at w).number) w)))
    (waiting (frame_at w) (frames (suc n) w))

unfoldable pub count_in : List ℕ → Found
count_in w = pick (count_at w).whole (frames_in (count_at w).number (drop 4 w)) (waiting (count_at w) (count w))

unfoldable pub settings_in : List ℕ → Found
settings_in w =
    pick (settings_at w).whole
    (joined (record { t = (settings_at w).number ∷ []; frames = []; state = bad }) (count_in (drop 5 w)))
    (waiting (settings_at w) (settings w))

-- All that can be found in the octets at hand.
abbrev pub found : State → Found
found (settings w) = settings_in w
found (count w) = count_in w
found (frames n w) = frames_in n w
found bad = nothing bad
