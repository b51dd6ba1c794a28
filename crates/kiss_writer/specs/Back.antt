-- The import finds the frames again that the export wrote.
use Rattle.std.specs.Prelude.{ℕ, ◌<◌, ◌≡◌, List, map, length, take, Ok}
use Rattle.octets.specs.Numbers.{at}
use Rattle.rules.specs.Packets.{cut}
use Rattle.stretch.specs.Stretch.{Stretch, found, most_kept}
use Rattle.kiss.specs.Stream.{stretches_in}
use Rattle.kiss.specs.Reader.{standing, fresh}
use Rattle.kiss.specs.Statements.{Scans, joined}
use Rattle.kiss_writer.specs.Export.{Exports}

-- A stream holds these frames and nothing else, and so does a reader find that gets it in any pieces.
pub record Holds (stream : List ℕ) (frames : List (List ℕ)) : Type 0 where
  pub whole : stretches_in stream ≡ map found frames
  pub pieces : (kept : List ℕ) (pieces : List (List ℕ)) (told : List Stretch) → length kept ≡ most_kept → joined pieces ≡ stream
      → Scans (standing fresh kept) pieces told → told ≡ map found frames

-- So does what every call of the export leaves that answers a length: the frames that it was lent, checks and all.
abbrev pub CallsFoundAgain : Type 0
CallsFoundAgain =
    (t : ℕ) (octets lengths out : List ℕ) (n : ℕ) (out' : List ℕ) → ((i : ℕ) → at octets i < 256)
    → Exports t octets lengths out (Ok n) out' → Holds (take n out') (cut octets lengths)
