-- What is written of a recording: the frames that are accepted, as a KISS stream.
use Rattle.std.specs.Prelude.{◌≡◌, ℕ, Bool, true, false, List, [], ◌∷◌, ◌++◌, map}
use Rattle.octets.specs.Pick.{pick}
use Rattle.frame.specs.Frame.{read_frame}
use Rattle.rules.specs.Packets.{joined}
use Rattle.recording.specs.Pieces.{Found, found, settings_in}
use Rattle.recording.specs.Reader.{state_of}
use Rattle.recording.specs.declared.Reader.{Reader}
use Rattle.recording.specs.declared.Reader.TheVariants as reader
use Rattle.kiss.specs.Stream.{mark, stretches_in}
use Rattle.kiss_writer.specs.Export.{block_of, stream_of}

-- What stands in the stream for a frame: its block, with one 0xC0 behind it; if asked, with one before it too.
abbrev pub block_by : Bool → List ℕ → List ℕ
block_by true f = mark ∷ block_of f
block_by false f = block_of f

-- What is written for a frame: that if the frame's reader accepts it, else nothing.
unfoldable pub handed_on : Bool → ℕ → List ℕ → List ℕ
handed_on both t f = pick (read_frame t f).accepted (block_by both f) []

-- t as it was told last.
abbrev pub time_by : ℕ → List ℕ → ℕ
time_by t [] = t
time_by t (x ∷ xs) = time_by x xs

-- For what was found: one 0xC0 with t, then the frames.
abbrev pub written_of : Bool → ℕ → Found → List ℕ
written_of both t f = map (λ (x : ℕ). mark) f.t ++ joined (map (handed_on both (time_by t f.t)) f.frames)

-- What is to be written from a reader on, with w at hand.
abbrev pub to_write : Bool → ℕ → Reader → List ℕ → List ℕ
to_write both t a w = written_of both t (found (state_of a w))

-- ---- of a whole recording

-- The frames that are accepted.
abbrev pub accepted_of : ℕ → List (List ℕ) → List (List ℕ)
accepted_of t [] = []
accepted_of t (f ∷ fs) = pick (read_frame t f).accepted (f ∷ accepted_of t fs) (accepted_of t fs)

-- Nothing before t is told; then one 0xC0 and those frames.
abbrev pub exported : Bool → List ℕ → List (List ℕ) → List ℕ
exported both [] frames = []
exported both (t ∷ ts) frames = mark ∷ joined (map (block_by both) (accepted_of t frames))

-- That is what is to be written of a recording's octets, as far as they have come; with no 0xC0 before each frame it is the stream of those
-- frames, as the export has it.
pub record WritesAccepted : Type 0 where
  pub writes : (both : Bool) (octets : List ℕ)
      → to_write both 0 reader.Settings octets ≡ exported both (settings_in octets).t (settings_in octets).frames
  pub plain : (t : ℕ) (ts : List ℕ) (frames : List (List ℕ)) → exported false (t ∷ ts) frames ≡ stream_of (accepted_of t frames)

-- A 0xC0 before each frame changes nothing of what is found in the stream.
abbrev pub FindsTheSame : Type 0
FindsTheSame = (ts : List ℕ) (frames : List (List ℕ)) → stretches_in (exported true ts frames) ≡ stretches_in (exported false ts frames)
