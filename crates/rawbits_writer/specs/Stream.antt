-- Document 02, M-105: what the writer of raw bits writes and answers.
use Rattle.std.specs.Prelude.{ℕ, suc, ◌+◌, ◌/◌, Bool, true, false, ◌||◌, cond, List, [], ◌∷◌, ◌++◌, length, ltb}
use Rattle.bits.specs.Rows.{zeros, bits_of_all}
use Rattle.bits.specs.Rows.Order.{low_first}
use Rattle.bits.specs.Field.{octets_in}
use Rattle.answer.specs.Writer.{Wrote}
use Rattle.answer.specs.Writer.{Written}
use Rattle.frame.specs.Limits.{least_length, greatest_length}
use Rattle.rules.specs.Packets.{cut}
use Rattle.lengths.specs.Lengths.{lengths_wrong}
use Rattle.rawbits.specs.Recording.{flag}

-- ---- the bits

-- A 0 behind each five 1s, also those at the end; k 1s in a row stand before.
abbrev pub stuffed : ℕ → List Bool → List Bool
stuffed k [] = []
stuffed k (false ∷ s) = false ∷ stuffed 0 s
stuffed k (true ∷ s) = true ∷ cond (ltb k 4) (stuffed (suc k) s) (false ∷ stuffed 0 s)

-- A frame's octets, low bit first, stuffed: no 1s stand before them, since runs of 1s don't go over a flag.
abbrev pub body_bits : List ℕ → List Bool
body_bits f = stuffed 0 (bits_of_all low_first f)

-- One flag behind each frame.
abbrev pub frame_bits : List (List ℕ) → List Bool
frame_bits [] = []
frame_bits (f ∷ fs) = body_bits f ++ flag ++ frame_bits fs

-- One flag, then the frames.
abbrev pub all_bits : List (List ℕ) → List Bool
all_bits frames = flag ++ frame_bits frames

-- ---- the octets

-- The octets of a row, the earliest bit in the top of its octet; the last octet is filled up with 0.
abbrev pub packed : List Bool → List ℕ
packed s = octets_in ((length s + 7) / 8) (s ++ zeros 7)

unfoldable pub stream_of : List (List ℕ) → List ℕ
stream_of frames = packed (all_bits frames)

-- ---- the answer

-- 51: a length outside 23 to 274, or lengths that don't add up to the octets.
abbrev pub outside : ℕ → Bool
outside n = ltb n least_length || ltb greatest_length n

abbrev pub any_outside : List ℕ → Bool
any_outside [] = false
any_outside (n ∷ ns) = outside n || any_outside ns

abbrev pub frames_wrong : List ℕ → List ℕ → Bool
frames_wrong octets lengths = any_outside lengths || lengths_wrong lengths (length octets)

-- The contract: frames end to end with their lengths; the lent output before and after.
abbrev pub WroteFrames : List ℕ → List ℕ → List ℕ → Written → List ℕ → Type 0
WroteFrames octets lengths out r out' = Wrote (frames_wrong octets lengths) (stream_of (cut octets lengths)) out r out'
