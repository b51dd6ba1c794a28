-- Document 01, 'The frame': the octets of a frame's fields, n octets of data and a time of t octets.
use Rattle.std.specs.Prelude.{ℕ, ◌+◌, ◌*◌, List, [], ◌∷◌, ◌++◌, Bool, not, ◌||◌, length, ltb, eqb}
use Rattle.answer.specs.Writer.{Wrote}
use Rattle.answer.specs.Writer.{Written}
use Rattle.bits.specs.Rows.{ones}
use Rattle.bits.specs.Rows.Order.{low_first}
use Rattle.crc.specs.Check.{with_check}
use Rattle.frame.specs.Limits.{longest_time, longest_data, last_channel, most_telecommands}
use Rattle.frame.specs.Address.{unfit, address_octets}
use Rattle.frame.specs.Frame.{flag_of, pointer_wrong}
use Rattle.frame.specs.declared.Frame.{Frame}

-- 51, of fields that are lent n octets of data and m octets of time: t above 8, time not t octets, another length than the data's,
-- data above 251 - t, a channel above 3 bits, telecommands above 2, pointer wrong, an SSID above 4 bits or a callsign wrong.
unfoldable pub fields_wrong : Frame → ℕ → ℕ → ℕ → Bool
fields_wrong f t n m =
    ltb longest_time t || (not (eqb m t) || not (eqb f.length n) || ltb (longest_data t) n || ltb last_channel f.channel
    || ltb most_telecommands f.telecommands
    || pointer_wrong f.pointer n || unfit f.destination || unfit f.source)

-- Control, protocol, and the information's first four octets.
abbrev pub head_of : Frame → List ℕ
head_of f = 3 ∷ 240 ∷ (8 * f.channel) ∷ f.master.0 ∷ f.count.0 ∷ f.pointer ∷ []

abbrev pub front : Frame → List ℕ
front f = address_octets f.destination 0 ++ address_octets f.source 1 ++ head_of f

abbrev pub status_octet : Frame → ℕ → ℕ
status_octet f t = 16 * flag_of t + f.telecommands

-- All before the check.
abbrev pub body : Frame → ℕ → List ℕ → List ℕ → List ℕ
body f t d m = front f ++ d ++ (status_octet f t ∷ []) ++ m

-- The frame of fields f, t, data d and time m: all that, and behind it the check, low octet first.
unfoldable pub frame_octets : Frame → ℕ → List ℕ → List ℕ → List ℕ
frame_octets f t d m = with_check low_first (ones 16) (body f t d m)

-- The contract of the writer: fields, t, data and time, and the lent output before and after.
abbrev pub WroteFrame : Frame → ℕ → List ℕ → List ℕ → List ℕ → Written → List ℕ → Type 0
WroteFrame f t d m out r out' = Wrote (fields_wrong f t (length d) (length m)) (frame_octets f t d m) out r out'
