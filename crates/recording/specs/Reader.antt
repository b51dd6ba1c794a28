-- A reader of a recording: what it makes of the octets at hand.
use Rattle.std.specs.Prelude.{ℕ, ◌+◌, ◌-◌, ◌≤◌, ◌<◌, ◌≡◌, List, [], ◌∷◌, ◌++◌, length, take, drop, eqb}
use Rattle.octets.specs.Pick.{pick}
use Rattle.recording.specs.Sections.{least_window, Seen, wrong, missing, settings_at, count_at, frame_at}
use Rattle.recording.specs.Pieces.{State, settings, count, frames, bad, Found, nothing, joined, found}
use Rattle.recording.specs.declared.Reader.{Reader}
use Rattle.recording.specs.declared.Reader.TheVariants as reader
use Rattle.recording.specs.declared.Taken.{Taken}
use Rattle.recording.specs.declared.Taken.TheVariants as taken
use Rattle.recording.specs.declared.Scanned.{Scanned}

-- What stands at the start of w for a reader. After the last frame nothing may follow; a bad recording stays bad.
abbrev pub seen_at : Reader → List ℕ → Seen
seen_at reader.Settings w = settings_at w
seen_at reader.Count w = count_at w
seen_at (reader.Frames n) w = pick (eqb n 0) (pick (eqb (length w) 0) (missing 1) wrong) (frame_at w)
seen_at reader.Bad w = wrong

abbrev pub stopped : Scanned
stopped = record { reader = reader.Bad; used = 0; taken = taken.Bad }

abbrev pub over : Scanned
over = record { reader = reader.Bad; used = 0; taken = taken.Over }

-- What may not stand there; nothing more is read of a recording that was bad before.
abbrev pub bad_at : Reader → Scanned
bad_at reader.Settings = stopped
bad_at reader.Count = stopped
bad_at (reader.Frames n) = stopped
bad_at reader.Bad = over

abbrev pub waiting : Reader → ℕ → Scanned
waiting a n = record { reader = a; used = 0; taken = taken.Missing n }

-- A whole section with this number: settings are followed by the count of frames, that by as many frames.
abbrev pub passed : Reader → ℕ → Scanned
passed reader.Settings t = record { reader = reader.Count; used = 5; taken = taken.Opened t }
passed reader.Count n = record { reader = reader.Frames n; used = 4; taken = taken.Nothing }
passed (reader.Frames left) n = record { reader = reader.Frames (left - 1); used = 2 + n; taken = taken.Here 2 (2 + n) }
passed reader.Bad n = over

-- The contract of a reader's scan.
unfoldable pub scanned : Reader → List ℕ → Scanned
scanned a w =
    pick (seen_at a w).whole (passed a (seen_at a w).number)
    (pick (seen_at a w).bad (bad_at a) (waiting a (seen_at a w).number))

-- A reader with these octets at hand, as Pieces has it.
abbrev pub state_of : Reader → List ℕ → State
state_of reader.Settings w = settings w
state_of reader.Count w = count w
state_of (reader.Frames n) w = frames n w
state_of reader.Bad w = bad

-- What a scan of w tells.
abbrev pub tells_of : Taken → List ℕ → Found
tells_of (taken.Missing n) w = nothing bad
tells_of taken.Bad w = nothing bad
tells_of taken.Over w = nothing bad
tells_of (taken.Opened t) w = record { t = t ∷ []; frames = []; state = bad }
tells_of taken.Nothing w = nothing bad
tells_of (taken.Here from to) w = record { t = []; frames = take (to - from) (drop from w) ∷ []; state = bad }

-- Some octets were used, and the recording is good so far.
pub record Goes (a : Reader) (r : Scanned) : Type 0 where
  pub some : 0 < r.used
  pub before : a ≡ reader.Bad → ⊥
  pub behind : r.reader ≡ reader.Bad → ⊥

-- Nothing can be found yet in w, and the least window has room for the n that are missing.
pub record Waits (a : Reader) (w : List ℕ) (n : ℕ) : Type 0 where
  pub none : found (state_of a w) ≡ nothing (state_of a w)
  pub good : a ≡ reader.Bad → ⊥
  pub some : 0 < n
  pub room : length w + n ≤ least_window

-- What is known by what was found. No t is found behind a frame.
abbrev pub Told : Reader → List ℕ → Scanned → Taken → Type 0
Told a w r (taken.Missing n) = (r ≡ waiting a n) × Waits a w n
Told a w r taken.Bad = (r ≡ stopped) × (a ≡ reader.Bad → ⊥)
Told a w r taken.Over = (r ≡ over) × (a ≡ reader.Bad)
Told a w r (taken.Opened t) = Goes a r × (t ≤ 8)
Told a w r taken.Nothing = Goes a r
Told a w r (taken.Here from to) = Goes a r × (from ≤ to) × (to ≤ length w) × ((p : List ℕ) → (found (state_of r.reader p)).t ≡ [])

-- A scan finds the first of what there is to be found, whatever octets p come behind the window.
pub record Finds (a : Reader) (w : List ℕ) (r : Scanned) : Type 0 where
  pub next : (p : List ℕ) → found (state_of a (w ++ p)) ≡ joined (tells_of r.taken w) (found (state_of r.reader (drop r.used w ++ p)))
  pub inside : r.used ≤ length w
  pub told : Told a w r r.taken

abbrev pub ScansFind : Type 0
ScansFind = (a : Reader) (w : List ℕ) → Finds a w (scanned a w)
