-- Document 01, 'The packet': what reading one gives.
use Rattle.std.specs.Prelude.{ℕ, ◌+◌, ◌-◌, ◌/◌, ◌%◌, List, [], ◌∷◌, Bool, not, ◌||◌, length, ltb, eqb, Ok, Err}
use Rattle.octets.specs.Numbers.{at, word, five}
use Rattle.octets.specs.Parts.{part}
use Rattle.octets.specs.Pick.{pick}
use Rattle.answer.specs.Told.{Told, accept, refuse, TellsNothing, NoneLeftOut, refuse_for}
use Rattle.answer.specs.Refusals as refusal
use Rattle.bits.specs.Rows.{zeros}
use Rattle.bits.specs.Rows.Order.{high_first}
use Rattle.crc.specs.Check.{check_wrong}
use Rattle.packet.specs.Limits.{least_length, greatest_length, source_at}
use Rattle.packet.specs.declared.Packet.{Packet}
use Rattle.packet.specs.Answers.{PacketRead}

-- Refusal 20: outside 16 to 251 octets, or not C + 7.
unfoldable pub length_wrong : List ℕ → Bool
length_wrong s = ltb (length s) least_length || (ltb greatest_length (length s) || not (eqb (length s) (word (at s 4) (at s 5) + 7)))

-- Refusal 22: not version 000, type 0, header flag 1; grouping 11; spare 0, PUS version 001, spare 0000.
abbrev pub bits_wrong : List ℕ → Bool
bits_wrong s = not (eqb (at s 0 / 8) 1) || not (eqb (at s 2 / 64) 3) || not (eqb (at s 6) 16)

-- APID (11 bits), source sequence count (14 bits), service type, subtype, time, and how many octets of source data.
unfoldable pub fields_of : List ℕ → Packet
fields_of s =
    record {
      apid = word (at s 0 % 8) (at s 1);
      sequence = record { 0 = word (at s 2 % 64) (at s 3) };
      service = at s 7;
      subtype = at s 8;
      time = five (at s 9) (at s 10) (at s 11) (at s 12) (at s 13);
      length = length s - least_length;
    }

-- The fields of a refused packet.
abbrev pub no_packet : Packet
no_packet = record { apid = 0; sequence = record { 0 = 0 }; service = 0; subtype = 0; time = 0; length = 0 }

-- The numbers of a packet's fields: in a refusal's answer each is 0.
abbrev pub packet_numbers : Packet → List ℕ
packet_numbers p = p.apid ∷ p.sequence.0 ∷ p.service ∷ p.subtype ∷ p.time ∷ p.length ∷ []

-- A reader's answer tells the fields, or the refusal and 0 in every field.
abbrev pub told : PacketRead → Told Packet
told (Ok p) = accept p
told (Err n) = refuse_for no_packet n

abbrev pub RefusalsTellNothing : Type 0
RefusalsTellNothing = NoneLeftOut packet_numbers × TellsNothing told packet_numbers

-- 20, 21 (the last two octets aren't the check of those before), 22 in this order, else the fields.
unfoldable pub read_packet : List ℕ → Told Packet
read_packet s =
    pick (length_wrong s) (refuse no_packet refusal.packet_length)
    (pick (check_wrong high_first (zeros 16) s) (refuse no_packet refusal.packet_check)
    (pick (bits_wrong s) (refuse no_packet refusal.packet_bits) (accept (fields_of s))))

-- The source data: as many octets as the fields say, after the 14 of the header; none if s has not all of them.
abbrev pub source_of : Packet → List ℕ → List ℕ
source_of p s = part s source_at p.length
