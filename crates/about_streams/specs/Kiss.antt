-- KISS streams.
use Rattle.std.specs.Prelude.{ℕ, ◌≤◌, ◌<◌, ◌≡◌, List, [], ◌∷◌, map, length, take, Ok}
use Rattle.octets.specs.Numbers.{at}
use Rattle.answer.specs.Refusals as no
use Rattle.frame.specs.Limits.{longest_time}
use Rattle.rules.specs.Packets.{cut, total}
use Rattle.stretch.specs.Stretch.{Stretch, clipped, most_kept}
use Rattle.session.specs.Lent.{Lent}
use Rattle.session.specs.Statements.{offered}
use Rattle.session.specs.declared.Session.{Session}
use Rattle.sender.specs.Sender.{Framed, sent_octets, Sender}
use Rattle.about_delivery.specs.Link.{Passing, kept, arriving}
use Rattle.kiss.specs.Stream.{stretches_in}
use Rattle.kiss.specs.Reader.{standing, fresh}
use Rattle.kiss.specs.Statements.{Scans, joined}
use Rattle.kiss_writer.specs.Export.{stream_of, Exports}
use Rattle.kiss_writer.specs.Answers.{Exported}
use Rattle.about_streams.specs.Carried.{Faithful, Carries, Readable, Quiet}

-- What scans by a new reader tell of a stream in some pieces.
pub record InPieces (stream : List ℕ) (told : List Stretch) : Type 0 where
  pub kept : List ℕ
  pub room : length kept ≡ most_kept
  pub pieces : List (List ℕ)
  pub whole : joined pieces ≡ stream
  pub scans : Scans (standing fresh kept) pieces told

abbrev pub KissFaithful : Type 0
KissFaithful = Faithful stretches_in InPieces

abbrev pub KissCarries : Type 0
KissCarries = Carries stretches_in InPieces

abbrev pub KissReadable : Type 0
KissReadable = Readable InPieces

-- If an export is lent the frames that arrive, what it leaves holds what the link leaves.
abbrev pub ExportsCarry : Type 0
ExportsCarry =
    (t : ℕ) (frames : List Framed) (link : List Passing) → Quiet link
    → (octets lengths out : List ℕ) (n : ℕ) (out' : List ℕ) → ((i : ℕ) → at octets i < 256)
    → cut octets lengths ≡ map (sent_octets t) (kept link frames) → Exports t octets lengths out (Ok n) out'
    → stretches_in (take n out') ≡ arriving t link frames

-- No frame that arrives from a sender is refused: with room for the stream, the export of those that arrive answers its length.
abbrev pub SentAreTaken : Type 0
SentAreTaken =
    (t : ℕ) → t ≤ longest_time → (frames : List Framed) → Sender t frames
    → (link : List Passing) (octets lengths out : List ℕ) (r : Exported) (out' : List ℕ)
    → total lengths ≡ length octets → cut octets lengths ≡ map (sent_octets t) (kept link frames)
    → length (stream_of (cut octets lengths)) ≤ length out → Exports t octets lengths out r out'
    → r ≡ Ok (length (stream_of (cut octets lengths)))

-- What holds of each of some stretches.
abbrev pub Each : (Stretch → Type 0) → List Stretch → Type 0
Each P [] = Unit {0}
Each P (x ∷ xs) = P x × Each P xs

-- A session never answers 11 to what an import tells.
abbrev pub Never11 : Type 0
Never11 = (s : Session) (l : Lent) (stream : List ℕ)
    → Each (λ x. (offered s x l).answer.refusal ≡ no.frame_check → ⊥) (map clipped (stretches_in stream))
