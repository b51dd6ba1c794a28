-- Two streams worked out, one of KISS octets and one of raw bits, each with noise of every kind in it.
use Rattle.std.specs.Prelude.{ℕ, ◌≡◌, List, [], ◌∷◌, map, set}
use Rattle.bits.specs.Rows.{ones}
use Rattle.bits.specs.Rows.Order.{low_first}
use Rattle.crc.specs.Check.{with_check}
use Rattle.rules.specs.Channel.{Piece}
use Rattle.rules.specs.BothSides.{packet_of, frame, out}
use Rattle.stretch.specs.Stretch.{Stretch, found, unread}
use Rattle.sender.specs.Stream.{next, frames_by}
use Rattle.sender.specs.Sender.{Framed, sent_octets}
use Rattle.about_delivery.specs.Link.{Passing, arrives, loses, noise, arriving}
use Rattle.about_delivery.specs.Delivered.{handed, losses}
use Rattle.about_delivery.specs.Run.{Call, reports_of}
use Rattle.about_delivery.specs.Further.{refusal_of}
use Rattle.about_delivery.specs.Corners.{loss, at_first}
use Rattle.about_delivery.specs.Witness.{framed}
use Rattle.about_delivery.specs.MostLost.{alone}
use Rattle.about_delivery.specs.Returned.{Offered}
use Rattle.kiss.specs.Stream as kiss
use Rattle.rawbits.specs.Recording as rawbits
use Rattle.about_streams.specs.Carried.{Read}
use Rattle.about_streams.specs.Kiss.{InPieces}
use Rattle.about_streams.specs.Bits.{Scanned}

-- ---- what is sent

-- Two packets of 16 octets. KISS escapes the octets of the first, and raw bits stuff those of the second.
abbrev pub escaped_packet : List ℕ
escaped_packet = packet_of 16 0xC0

abbrev pub stuffed_packet : List ℕ
stuffed_packet = packet_of 16 0xFF

-- Four frames of channel 0 with a time of two octets: the first packet is cut over two, the third is empty, the fourth has the second
-- packet. Of the master counts 218 to 221 KISS escapes the second.
abbrev pub pieces : List Piece
pieces = frames_by (escaped_packet ∷ stuffed_packet ∷ []) 0 254 (next 10 ∷ next 6 ∷ next 0 ∷ next 16 ∷ [])

abbrev pub frames : List Framed
frames = alone 218 pieces

-- ---- what comes between

-- A stretch that is refused with the number a, the first frame, one that is refused with b, the second frame; the third is lost, and in its
-- place stand octets x that the frame reader refuses; then the fourth.
abbrev pub noisy : ℕ → ℕ → List ℕ → List Passing
noisy a b x = noise (unread a) ∷ arrives ∷ noise (unread b) ∷ arrives ∷ loses ∷ noise (found x) ∷ arrives ∷ []

-- What is to come of it: all that is refused takes an arrival number, and no packet is harmed by what is refused between its frames. x is
-- refused with the number c.
pub record Comes (a b c : ℕ) (calls : List Call) : Type 0 where
  pub refusals : map refusal_of calls ≡ a ∷ 0 ∷ b ∷ 0 ∷ c ∷ 0 ∷ []
  pub packets : handed (reports_of 0 calls) ≡ out 2 4 escaped_packet ∷ out 6 6 stuffed_packet ∷ []
  pub told : losses (reports_of 0 calls) ≡ at_first 2 ∷ loss 4 0 ∷ loss 6 1 ∷ []

module _ (held : List ℕ → List Stretch) (Tells : List ℕ → List Stretch → Type 0) where
  pub record Worked (stream : List ℕ) (a b c : ℕ) (x : List ℕ) : Type 0 where
    -- The stream holds what the link leaves.
    pub holds : held stream ≡ arriving 2 (noisy a b x) frames
    -- Whatever a reader tells of it, in whatever pieces, and a new session is offered, this comes of it.
    pub comes : (told : List Stretch) → Tells stream told → (o : Offered 2 told) → o.last ≡ 0 → Comes a b c o.calls
    -- And so it can be told and offered.
    pub read : Read Tells stream
    pub offered : Offered 2 read.told
    pub fresh : offered.last ≡ 0

-- ---- KISS

-- Another station's frame, relayed: its source is not the last address, which is 121. ("APRS" from "N0CALL" by "WIDE1-1")
abbrev pub relayed : List ℕ
relayed =
    0x82 ∷ 0xA0 ∷ 0xA4 ∷ 0xA6 ∷ 0x40 ∷ 0x40 ∷ 0x60 ∷ 0x9C ∷ 0x60 ∷ 0x86 ∷ 0x82 ∷ 0x98 ∷ 0x98 ∷ 0x60 ∷ 0xAE ∷ 0x92 ∷
    0x88 ∷ 0x8A ∷ 0x62 ∷ 0x40 ∷ 0x63 ∷ 0x03 ∷ 0xF0 ∷ 0x3E ∷ []

-- An octet before the first 0xC0 and two behind the last are ignored, and nothing stands between the two in a row. 0xDB 0x02 is a wrong
-- escape, 0x06 another type.
unfoldable pub kiss_stream : List ℕ
kiss_stream =
    0x55 ∷ 0xC0 ∷ 0x00 ∷ 0x01 ∷ 0xDB ∷ 0x02 ∷ 0xC0 ∷ 0x00 ∷ 0x90 ∷ 0x84 ∷ 0x72 ∷ 0x8A ∷ 0x8E ∷ 0x40 ∷ 0x64 ∷ 0x90 ∷
    0x84 ∷ 0x72 ∷ 0x8A ∷ 0x8E ∷ 0x40 ∷ 0x63 ∷ 0x03 ∷ 0xF0 ∷ 0x00 ∷ 0xDA ∷ 0xFE ∷ 0x00 ∷ 0xDB ∷ 0xDC ∷ 0xDB ∷ 0xDC ∷
    0xDB ∷ 0xDC ∷ 0xDB ∷ 0xDC ∷ 0x00 ∷ 0x09 ∷ 0xDB ∷ 0xDC ∷ 0xDB ∷ 0xDC ∷ 0xDB ∷ 0xDC ∷ 0xDB ∷ 0xDC ∷ 0x91 ∷ 0x04 ∷
    0xC8 ∷ 0xC0 ∷ 0x06 ∷ 0x1E ∷ 0xC0 ∷ 0xC0 ∷ 0x00 ∷ 0x90 ∷ 0x84 ∷ 0x72 ∷ 0x8A ∷ 0x8E ∷ 0x40 ∷ 0x64 ∷ 0x90 ∷ 0x84 ∷
    0x72 ∷ 0x8A ∷ 0x8E ∷ 0x40 ∷ 0x63 ∷ 0x03 ∷ 0xF0 ∷ 0x00 ∷ 0xDB ∷ 0xDD ∷ 0xFF ∷ 0xFF ∷ 0xDB ∷ 0xDC ∷ 0xDB ∷ 0xDC ∷
    0xDB ∷ 0xDC ∷ 0xDB ∷ 0xDC ∷ 0xDB ∷ 0xDC ∷ 0xDB ∷ 0xDC ∷ 0x91 ∷ 0x04 ∷ 0xC8 ∷ 0xC0 ∷ 0x00 ∷ 0x82 ∷ 0xA0 ∷ 0xA4 ∷
    0xA6 ∷ 0x40 ∷ 0x40 ∷ 0x60 ∷ 0x9C ∷ 0x60 ∷ 0x86 ∷ 0x82 ∷ 0x98 ∷ 0x98 ∷ 0x60 ∷ 0xAE ∷ 0x92 ∷ 0x88 ∷ 0x8A ∷ 0x62 ∷
    0x40 ∷ 0x63 ∷ 0x03 ∷ 0xF0 ∷ 0x3E ∷ 0xC0 ∷ 0x00 ∷ 0x90 ∷ 0x84 ∷ 0x72 ∷ 0x8A ∷ 0x8E ∷ 0x40 ∷ 0x64 ∷ 0x90 ∷ 0x84 ∷
    0x72 ∷ 0x8A ∷ 0x8E ∷ 0x40 ∷ 0x63 ∷ 0x03 ∷ 0xF0 ∷ 0x00 ∷ 0xDD ∷ 0x01 ∷ 0x00 ∷ 0xFF ∷ 0xFF ∷ 0xFF ∷ 0xFF ∷ 0x00 ∷
    0x09 ∷ 0xFF ∷ 0xFF ∷ 0xFF ∷ 0xFF ∷ 0xFF ∷ 0xFF ∷ 0xFF ∷ 0xFF ∷ 0xFF ∷ 0xFF ∷ 0x91 ∷ 0x04 ∷ 0xC8 ∷ 0xC0 ∷ 0x00 ∷
    0xAA ∷ []

abbrev pub WorkedKiss : Type 0
WorkedKiss = Worked kiss.stretches_in InPieces kiss_stream 18 19 121 (with_check low_first (ones 16) relayed)

-- ---- raw bits

-- The third frame, its master count damaged: its check is wrong, which is 11.
abbrev pub damaged : List ℕ
damaged = set (sent_octets 2 (framed 0 220 (frame 0 255 []))) 17 0

-- Bits before the first flag and behind the last are ignored. Behind the first flag seven 1s abandon a stretch, and behind the first frame
-- seven bits are no whole octet.
unfoldable pub bits_stream : List ℕ
bits_stream =
    0xAF ∷ 0xC5 ∷ 0xFD ∷ 0xF8 ∷ 0x24 ∷ 0x85 ∷ 0x39 ∷ 0x45 ∷ 0xC4 ∷ 0x08 ∷ 0x98 ∷ 0x24 ∷ 0x85 ∷ 0x39 ∷ 0x45 ∷ 0xC4 ∷
    0x0B ∷ 0x1B ∷ 0x00 ∷ 0x3C ∷ 0x01 ∷ 0x6D ∷ 0xF6 ∷ 0x00 ∷ 0x06 ∷ 0x06 ∷ 0x06 ∷ 0x06 ∷ 0x01 ∷ 0x20 ∷ 0x06 ∷ 0x06 ∷
    0x06 ∷ 0x07 ∷ 0x12 ∷ 0x40 ∷ 0x27 ∷ 0x60 ∷ 0x08 ∷ 0xFC ∷ 0x51 ∷ 0xF9 ∷ 0xF8 ∷ 0x24 ∷ 0x85 ∷ 0x39 ∷ 0x45 ∷ 0xC4 ∷
    0x08 ∷ 0x98 ∷ 0x24 ∷ 0x85 ∷ 0x39 ∷ 0x45 ∷ 0xC4 ∷ 0x0B ∷ 0x1B ∷ 0x00 ∷ 0x3C ∷ 0x03 ∷ 0x6F ∷ 0xBE ∷ 0xFB ∷ 0x81 ∷
    0x81 ∷ 0x81 ∷ 0x81 ∷ 0x81 ∷ 0x81 ∷ 0xC4 ∷ 0x90 ∷ 0x09 ∷ 0xA0 ∷ 0x0C ∷ 0xBF ∷ 0x04 ∷ 0x90 ∷ 0xA7 ∷ 0x28 ∷ 0xB8 ∷
    0x81 ∷ 0x13 ∷ 0x04 ∷ 0x90 ∷ 0xA7 ∷ 0x28 ∷ 0xB8 ∷ 0x81 ∷ 0x63 ∷ 0x60 ∷ 0x07 ∷ 0x80 ∷ 0x00 ∷ 0x00 ∷ 0x7D ∷ 0xE2 ∷
    0x48 ∷ 0x04 ∷ 0xF7 ∷ 0x35 ∷ 0xDF ∷ 0x82 ∷ 0x48 ∷ 0x53 ∷ 0x94 ∷ 0x5C ∷ 0x40 ∷ 0x89 ∷ 0x82 ∷ 0x48 ∷ 0x53 ∷ 0x94 ∷
    0x5C ∷ 0x40 ∷ 0xB1 ∷ 0xB0 ∷ 0x03 ∷ 0xC0 ∷ 0x2E ∷ 0xE0 ∷ 0x00 ∷ 0x3E ∷ 0xFB ∷ 0xEF ∷ 0xBE ∷ 0xFB ∷ 0x00 ∷ 0x90 ∷
    0xFB ∷ 0xEF ∷ 0xBE ∷ 0xFB ∷ 0xEF ∷ 0xBE ∷ 0xFB ∷ 0xEF ∷ 0xBE ∷ 0xFB ∷ 0xEF ∷ 0xBE ∷ 0x89 ∷ 0x20 ∷ 0x13 ∷ 0x5E ∷
    0x95 ∷ 0x7E ∷ 0x7F ∷ []

abbrev pub WorkedBits : Type 0
WorkedBits = Worked rawbits.stretches_in Scanned bits_stream 17 16 11 damaged
