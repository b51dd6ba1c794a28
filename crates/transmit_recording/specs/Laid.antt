-- A recording laid at the start of lent octets.
use Rattle.std.specs.Prelude.{◌≡◌, ℕ, ◌+◌, ◌*◌, ◌≤◌, Bool, List, ◌++◌, length, nat_lt}
use Rattle.octets.specs.Pick.{pick}
use Rattle.octets.specs.Parts.{written}
use Rattle.transmit_recording.specs.Recording.{one_of, frames_of, recording_of}

-- No number of octets.
abbrev pub none : ℕ
none = 18446744073709551615

-- Whether an output is too short for the first octets and all the frames made, each behind its length.
abbrev pub too_short : List ℕ → List ℕ → List ℕ → Bool
too_short made frames out = nat_lt (length out) (9 + length made + 2 * length frames)

-- The contract of `lay`: the recording stands at the output's start, or the output is too short and stays.
pub record Lays (t : ℕ) (made frames out : List ℕ) (r : ℕ) (out' : List ℕ) : Type 0 where
  pub size : r ≡ pick (too_short made frames out) none (length (recording_of t made frames))
  pub leaves : out' ≡ pick (too_short made frames out) out (written (recording_of t made frames) out)

-- One frame behind d, which stands at the start of what o was.
pub record LaysOne (rest : List ℕ) (n : ℕ) (out : List ℕ) (to r : ℕ) (out' : List ℕ) : Type 0 where
  pub behind : r ≡ to + length (one_of rest n)
  pub adds : (d o : List ℕ) → out ≡ written d o → to ≡ length d → length d + length (one_of rest n) ≤ length o → out' ≡ written
      (d ++ one_of rest n) o

-- All frames behind d, nine octets that stand at the start of what o was.
pub record LaysFrames (made frames out : List ℕ) (r : ℕ) (out' : List ℕ) : Type 0 where
  pub behind : r ≡ 9 + length (frames_of made frames)
  pub adds : (d o : List ℕ) → out ≡ written d o → 9 ≡ length d → out' ≡ written (d ++ frames_of made frames) o
