-- Recordings of raw bits.
use Rattle.std.specs.Prelude.{ℕ, ◌≤◌, ◌<◌, ◌≡◌, List, map, length, take, Ok}
use Rattle.octets.specs.Numbers.{at}
use Rattle.answer.specs.Writer.{Written}
use Rattle.rules.specs.Packets.{cut, total}
use Rattle.stretch.specs.Stretch.{Stretch}
use Rattle.sender.specs.Sender.{Framed, sent_octets, Sender}
use Rattle.about_delivery.specs.Link.{Passing, kept, arriving}
use Rattle.rawbits.specs.Recording.{stretches_in}
use Rattle.rawbits.specs.Reader.{Standing}
use Rattle.rawbits.specs.Finding.{Scans}
use Rattle.rawbits_writer.specs.Stream.{stream_of, WroteFrames}
use Rattle.about_streams.specs.Carried.{Faithful, Carries, Readable, Quiet}

-- What scans by a new reader tell that use all octets of a recording, in some pieces.
pub record Scanned (stream : List ℕ) (told : List Stretch) : Type 0 where
  pub stands : Standing
  pub scans : Scans stream told stands

abbrev pub BitsFaithful : Type 0
BitsFaithful = Faithful stretches_in Scanned

abbrev pub BitsCarries : Type 0
BitsCarries = Carries stretches_in Scanned

abbrev pub BitsReadable : Type 0
BitsReadable = Readable Scanned

-- If a writer is lent the frames that arrive, what it leaves holds what the link leaves.
abbrev pub WrittenCarry : Type 0
WrittenCarry =
    (t : ℕ) (frames : List Framed) (link : List Passing) → Quiet link
    → (octets lengths out : List ℕ) (n : ℕ) (out' : List ℕ) → ((i : ℕ) → at octets i < 256)
    → cut octets lengths ≡ map (sent_octets t) (kept link frames) → WroteFrames octets lengths out (Ok n) out'
    → stretches_in (take n out') ≡ arriving t link frames

-- No frame that arrives from a sender is refused: with room for the stream, the writer of those that arrive answers its length.
abbrev pub SentAreTaken : Type 0
SentAreTaken =
    (t : ℕ) (frames : List Framed) → Sender t frames
    → (link : List Passing) (octets lengths out : List ℕ) (r : Written) (out' : List ℕ)
    → total lengths ≡ length octets → cut octets lengths ≡ map (sent_octets t) (kept link frames)
    → length (stream_of (cut octets lengths)) ≤ length out → WroteFrames octets lengths out r out'
    → r ≡ Ok (length (stream_of (cut octets lengths)))
