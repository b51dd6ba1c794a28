-- What the crate's private functions ask of their callers.
use Rattle.std.specs.Prelude.{ℕ, ◌+◌, ◌≤◌, ◌≡◌, List, [], ◌∷◌, length}
use Rattle.rules.specs.Packets.{cut, total}
use Rattle.kiss_writer.specs.Export.{body_block, stream_of}

-- Room from index at on for the block of a frame that is given without its check.
pub record BlockRoom (body : List ℕ) (at : ℕ) (out : List ℕ) : Type 0 where
  pub room : at + length (body_block body) ≤ length out

-- Frames that have a check.
abbrev pub Checked : List (List ℕ) → Type 0
Checked [] = Unit {0}
Checked (f ∷ fs) = (2 ≤ length f) × Checked fs

-- Octets of such frames end to end, with their lengths.
pub record Frames (octets lengths : List ℕ) : Type 0 where
  pub adds : total lengths ≡ length octets
  pub checked : Checked (cut octets lengths)

-- And room for the stream.
pub record Room (octets lengths out : List ℕ) : Type 0 where
  pub frames : Frames octets lengths
  pub room : length (stream_of (cut octets lengths)) ≤ length out
