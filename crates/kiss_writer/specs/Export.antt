-- Document 02, M-110: what the export writes and answers.
use Rattle.std.specs.Prelude.{ℕ, ◌≡◌, List, [], ◌∷◌, ◌++◌, map, length, ltb, Ok, Err}
use Rattle.octets.specs.Pick.{pick}
use Rattle.octets.specs.Parts.{written}
use Rattle.answer.specs.Told.{Told, accept, refuse, refuse_at, TellsNothing, refuse_for}
use Rattle.answer.specs.Refusals as no
use Rattle.crc.specs.Check.{before}
use Rattle.frame.specs.Limits.{longest_time}
use Rattle.frame.specs.Frame.{read_frame}
use Rattle.rules.specs.Packets.{joined, cut}
use Rattle.lengths.specs.Lengths.{lengths_wrong}
use Rattle.kiss.specs.Stream.{mark, data_frame, escaped}
use Rattle.kiss_writer.specs.Answers.{Exported}

-- ---- the stream

-- What stands in the stream for a frame that is given without its check: the type octet and the frame, escaped, and one 0xC0 behind.
abbrev pub body_block : List ℕ → List ℕ
body_block body = escaped (data_frame ∷ body) ++ mark ∷ []

abbrev pub block_of : List ℕ → List ℕ
block_of f = body_block (before f)

-- One 0xC0, then the frames.
abbrev pub stream_of : List (List ℕ) → List ℕ
stream_of frames = mark ∷ joined (map block_of frames)

-- ---- the answer

-- How many octets were written, or the refusal with the octet that it tells.
abbrev pub told : Exported → Told ℕ
told (Ok n) = accept n
told (Err r) = refuse_for 0 r

abbrev pub RefusalsTellNothing : Type 0
RefusalsTellNothing = TellsNothing told (λ n. n ∷ [])

-- The frame reader's refusal of the first frame that it turns away; none is 0.
unfoldable pub first_bad : ℕ → List (List ℕ) → Told ℕ
first_bad t [] = accept 0
first_bad t (f ∷ fs) = pick (read_frame t f).accepted (first_bad t fs) (refuse_at 0 (read_frame t f).refusal (read_frame t f).octet)

-- Where there is room, the length; else 50.
abbrev pub room_for : List ℕ → List ℕ → Told ℕ
room_for stream out = pick (ltb (length out) (length stream)) (refuse 0 no.output_short) (accept (length stream))

-- Frames end to end with their lengths: 2, then 51 where the lengths don't add up to the octets, then the first bad frame's own refusal,
-- then 50; else the length.
unfoldable pub exporting : ℕ → List ℕ → List ℕ → List ℕ → Told ℕ
exporting t octets lengths out =
    pick (ltb longest_time t) (refuse 0 no.time_length)
    (pick (lengths_wrong lengths (length octets)) (refuse 0 no.field_range)
    (pick (first_bad t (cut octets lengths)).accepted (room_for (stream_of (cut octets lengths)) out)
    (first_bad t (cut octets lengths))))

-- The contract of the export: the lent output before and after. It is written only if nothing is refused, and stays beyond the stream.
pub record Exports (t : ℕ) (octets lengths out : List ℕ) (r : Exported) (out' : List ℕ) : Type 0 where
  pub answers : told r ≡ exporting t octets lengths out
  pub leaves : out' ≡ pick (told r).accepted (written (stream_of (cut octets lengths)) out) out
