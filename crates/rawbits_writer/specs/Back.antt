-- A reader of raw bits finds the frames again that were written.
use Rattle.std.specs.Prelude.{ℕ, ◌<◌, ◌≡◌, false, List, [], ◌∷◌, map, take, Ok}
use Rattle.octets.specs.Numbers.{at}
use Rattle.rules.specs.Packets.{cut}
use Rattle.stretch.specs.Stretch.{Stretch, found}
use Rattle.rawbits.specs.Recording.{flag, contains, stretches_in}
use Rattle.rawbits.specs.Reader.{Standing}
use Rattle.rawbits.specs.Finding.{Scans}
use Rattle.rawbits_writer.specs.Stream.{body_bits, stream_of, WroteFrames}

-- No frames are one flag.
abbrev pub NoFramesAreOneFlag : Type 0
NoFramesAreOneFlag = stream_of [] ≡ 126 ∷ []

-- No frame's stuffed bits contain a flag.
abbrev pub StuffedHasNoFlag : Type 0
StuffedHasNoFlag = (f : List ℕ) → contains flag (body_bits f) ≡ false

-- A stream holds these frames and nothing else, and so does a reader find that gets it in any pieces.
pub record Holds (stream : List ℕ) (frames : List (List ℕ)) : Type 0 where
  pub whole : stretches_in stream ≡ map found frames
  pub pieces : (told : List Stretch) (a : Standing) → Scans stream told a → told ≡ map found frames

-- So does what every call of the writer leaves that answers a length: the frames that it was lent.
abbrev pub CallsFoundAgain : Type 0
CallsFoundAgain =
    (octets lengths out : List ℕ) (n : ℕ) (out' : List ℕ) → ((i : ℕ) → at octets i < 256)
    → WroteFrames octets lengths out (Ok n) out' → Holds (take n out') (cut octets lengths)
