-- Document 01, 'The packet': what writing one gives.
use Rattle.std.specs.Prelude.{ℕ, ◌+◌, ◌/◌, ◌%◌, List, ◌∷◌, ◌++◌, Bool, not, ◌||◌, length, ltb, eqb}
use Rattle.octets.specs.Numbers.{five_of}
use Rattle.bits.specs.Rows.{zeros}
use Rattle.bits.specs.Rows.Order.{high_first}
use Rattle.crc.specs.Check.{with_check}
use Rattle.answer.specs.Writer.{Wrote}
use Rattle.answer.specs.Writer.{Written}
use Rattle.packet.specs.Limits.{longest_source, last_apid, last_count, last_time}
use Rattle.packet.specs.declared.Packet.{Packet}

-- Refusal 51, of fields and n octets of source data.
abbrev pub fields_wrong : Packet → ℕ → Bool
fields_wrong p n =
    ltb last_apid p.apid || ltb last_count p.sequence.0 || ltb last_time p.time || ltb longest_source n || not (eqb p.length n)

-- The 14 octets before the source data; C is the whole length less 7.
abbrev pub header_of : Packet → List ℕ
header_of p =
    (8 + p.apid / 256) ∷ (p.apid % 256) ∷ (192 + p.sequence.0 / 256) ∷ (p.sequence.0 % 256) ∷
    ((p.length + 9) / 256) ∷ ((p.length + 9) % 256) ∷ 16 ∷ p.service ∷ p.subtype ∷ five_of p.time

-- The packet of fields and source data: these octets, and behind them their check.
unfoldable pub packet_octets : Packet → List ℕ → List ℕ
packet_octets p source = with_check high_first (zeros 16) (header_of p ++ source)

-- The contract of the writer: fields and source data, and the lent output before and after.
abbrev pub WrotePacket : Packet → List ℕ → List ℕ → Written → List ℕ → Type 0
WrotePacket p source out r out' = Wrote (fields_wrong p (length source)) (packet_octets p source) out r out'
