-- What the checks do not show: four bits within 17 neighbours, the generator's own, wherever they lie. So 16 is sharp.
use Rattle.std.specs.Prelude.{ℕ, ◌≡◌, Bool, true, List, [], ◌∷◌, ◌++◌, length}
use Rattle.bits.specs.Rows.{zeros, Order}
use Rattle.bits.specs.Rows.Order.{high_first, low_first}
use Rattle.crc.specs.Check.{generator, check}
use Rattle.packet.specs.Packet.{read_packet}
use Rattle.frame.specs.Frame.{read_frame}
use Rattle.about_damage.specs.Damage.{changes, count, Within}

-- The generator with its X^16: four bits within 17.
abbrev pub four : List Bool
four = true ∷ generator

-- Changed by these four bits anywhere, octets have the check that they had.
abbrev pub GeneratorUnseen : Type 0
GeneratorUnseen =
    (o : Order) (mask : List Bool) (was became : List ℕ) (i k : ℕ) → length became ≡ length was
    → changes o was became ≡ zeros i ++ (four ++ zeros k) → check o mask became ≡ check o mask was

-- Four bits changed, within 17 neighbours.
pub record FourWithin17 (row : List Bool) : Type 0 where
  pub bits : count row ≡ 4
  pub within : Within 17 row

-- A packet whose time changes so by bits 72, 76, 83 and 88, and is accepted before and after.
abbrev pub packet : List ℕ
packet = 0x08 ∷ 0x05 ∷ 0xc0 ∷ 0x09 ∷ 0x00 ∷ 0x09 ∷ 0x10 ∷ 0x01 ∷ 0x01 ∷ 0x00 ∷ 0x00 ∷ 0x00 ∷ 0x01 ∷ 0x80 ∷ 0xaf ∷ 0xf9 ∷ []

abbrev pub other_packet : List ℕ
other_packet = 0x08 ∷ 0x05 ∷ 0xc0 ∷ 0x09 ∷ 0x00 ∷ 0x09 ∷ 0x10 ∷ 0x01 ∷ 0x01 ∷ 0x88 ∷ 0x10 ∷ 0x80 ∷ 0x01 ∷ 0x80 ∷ 0xaf ∷ 0xf9 ∷ []

abbrev pub PacketUnseen : Type 0
PacketUnseen =
    FourWithin17 (changes high_first packet other_packet)
    × (((read_packet packet).accepted ≡ true) × ((read_packet other_packet).accepted ≡ true))

-- A frame with a time of one octet, whose data changes so by bits 200, 204, 211 and 216, and is accepted before and after.
abbrev pub frame : List ℕ
frame =
    0x90 ∷ 0x84 ∷ 0x72 ∷ 0x8a ∷ 0x8e ∷ 0x40 ∷ 0x60 ∷ 0x90 ∷ 0x84 ∷ 0x72 ∷ 0x8a ∷ 0x8e ∷ 0x62 ∷ 0x63 ∷ 0x03 ∷ 0xf0 ∷
    0x00 ∷ 0x00 ∷ 0x03 ∷ 0x00 ∷ 0x08 ∷ 0x05 ∷ 0xc0 ∷ 0x09 ∷ 0x00 ∷ 0x09 ∷ 0x10 ∷ 0x01 ∷ 0x01 ∷ 0x00 ∷ 0x00 ∷ 0x00 ∷
    0x01 ∷ 0x80 ∷ 0xaf ∷ 0xf9 ∷ 0x08 ∷ 0x05 ∷ 0xc0 ∷ 0x09 ∷ 0x00 ∷ 0x09 ∷ 0x10 ∷ 0x01 ∷ 0x01 ∷ 0x00 ∷ 0x00 ∷ 0x00 ∷
    0x01 ∷ 0x80 ∷ 0xaf ∷ 0xf9 ∷ 0x80 ∷ 0x80 ∷ 0xa4 ∷ 0xa2 ∷ []

abbrev pub other_frame : List ℕ
other_frame =
    0x90 ∷ 0x84 ∷ 0x72 ∷ 0x8a ∷ 0x8e ∷ 0x40 ∷ 0x60 ∷ 0x90 ∷ 0x84 ∷ 0x72 ∷ 0x8a ∷ 0x8e ∷ 0x62 ∷ 0x63 ∷ 0x03 ∷ 0xf0 ∷
    0x00 ∷ 0x00 ∷ 0x03 ∷ 0x00 ∷ 0x08 ∷ 0x05 ∷ 0xc0 ∷ 0x09 ∷ 0x00 ∷ 0x18 ∷ 0x18 ∷ 0x00 ∷ 0x01 ∷ 0x00 ∷ 0x00 ∷ 0x00 ∷
    0x01 ∷ 0x80 ∷ 0xaf ∷ 0xf9 ∷ 0x08 ∷ 0x05 ∷ 0xc0 ∷ 0x09 ∷ 0x00 ∷ 0x09 ∷ 0x10 ∷ 0x01 ∷ 0x01 ∷ 0x00 ∷ 0x00 ∷ 0x00 ∷
    0x01 ∷ 0x80 ∷ 0xaf ∷ 0xf9 ∷ 0x80 ∷ 0x80 ∷ 0xa4 ∷ 0xa2 ∷ []

abbrev pub FrameUnseen : Type 0
FrameUnseen =
    FourWithin17 (changes low_first frame other_frame)
    × (((read_frame 1 frame).accepted ≡ true) × ((read_frame 1 other_frame).accepted ≡ true))
