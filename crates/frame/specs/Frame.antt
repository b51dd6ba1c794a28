-- Document 01, 'The frame': what a reader answers of octets and a time of t octets.
use Rattle.std.specs.Prelude.{ℕ, zero, suc, ◌+◌, ◌-◌, ◌/◌, ◌%◌, List, [], ◌∷◌, ◌++◌, Bool, not, ◌&&◌, ◌||◌, length, take, drop, ltb, eqb, Ok, Err}
use Rattle.octets.specs.Numbers.{at}
use Rattle.octets.specs.Parts.{part}
use Rattle.octets.specs.Pick.{pick}
use Rattle.answer.specs.Told.{Told, accept, refuse, refuse_at, TellsNothing, NoneLeftOut, refuse_for}
use Rattle.answer.specs.Refusals as no
use Rattle.bits.specs.Rows.{ones}
use Rattle.bits.specs.Rows.Order.{low_first}
use Rattle.crc.specs.Check.{check_wrong}
use Rattle.frame.specs.Limits.{least_length, greatest_length, longest_time, none_starts, raw_data}
use Rattle.frame.specs.Places.{address_length, control_at, protocol_at, channel_at, master_at, count_at, pointer_at, data_at, around_time}
use Rattle.frame.specs.Address.{first_wrong, address_wrong, address_of}
use Rattle.frame.specs.declared.Address.{Address}
use Rattle.frame.specs.declared.Frame.{Frame}
use Rattle.frame.specs.Answers.{FrameRead}

-- Every field 0.
abbrev pub no_address : Address
no_address = record { callsign = record { 0 = 0; 1 = 0; 2 = 0; 3 = 0; 4 = 0; 5 = 0 }; ssid = 0 }

abbrev pub no_frame : Frame
no_frame =
    record {
      destination = no_address;
      source = no_address;
      channel = 0;
      master = record { 0 = 0 };
      count = record { 0 = 0 };
      pointer = 0;
      telecommands = 0;
      length = 0;
    }

-- The numbers of a frame's fields: in a refusal's answer each is 0.
abbrev pub address_numbers : Address → List ℕ
address_numbers a =
    a.callsign.0 ∷ a.callsign.1 ∷ a.callsign.2 ∷ a.callsign.3 ∷ a.callsign.4 ∷ a.callsign.5 ∷ a.ssid ∷ []

abbrev pub frame_numbers : Frame → List ℕ
frame_numbers f =
    address_numbers f.destination ++ address_numbers f.source
    ++ (f.channel ∷ f.master.0 ∷ f.count.0 ∷ f.pointer ∷ f.telecommands ∷ f.length ∷ [])

abbrev pub told : FrameRead → Told Frame
told (Ok f) = accept f
told (Err r) = refuse_for no_frame r

abbrev pub RefusalsTellNothing : Type 0
RefusalsTellNothing = NoneLeftOut frame_numbers × TellsNothing told frame_numbers

-- ---- the refusals' lines

-- 10: shorter than the least length and t, or longer than the greatest.
abbrev pub length_wrong : ℕ → ℕ → Bool
length_wrong t n = ltb n (least_length + t) || ltb greatest_length n

-- 122: the control octet 0x03; 123: the protocol octet 0xF0. (120 and 121, of an address: `address_wrong`.)
abbrev pub control_wrong : ℕ → Bool
control_wrong x = not (eqb x 3)

abbrev pub protocol_wrong : ℕ → Bool
protocol_wrong x = not (eqb x 240)

-- 13: version 00, channel (3 bits), spare 000.
abbrev pub version_wrong : ℕ → Bool
version_wrong x = not (eqb (x / 64) 0) || not (eqb (x % 8) 0)

-- The time flag: 0000 for t = 0, else 8 + (t - 1).
abbrev pub flag_of : ℕ → ℕ
flag_of zero = 0
flag_of (suc n) = 8 + n

-- 14: time flag (4 bits), spare 00, telecommand count (2 bits).
unfoldable pub status_wrong : ℕ → ℕ → Bool
status_wrong t x = not (eqb (x / 16) (flag_of t)) || not (eqb (x / 4 % 4) 0)

-- 15, and the writer's 51: neither below the data's length, nor 255 (none starts), nor 254 (raw data) with data.
unfoldable pub pointer_wrong : ℕ → ℕ → Bool
pointer_wrong pointer n = not (ltb pointer n || eqb pointer none_starts || (eqb pointer raw_data && not (eqb n 0)))

-- ---- what stands where

-- The data's length: what is left of the frame beside its least length and the time.
abbrev pub data_length : ℕ → List ℕ → ℕ
data_length t s = length s - least_length - t

-- The status octet: the one before the last t octets of the information, behind which the check's two stand.
abbrev pub status_of : ℕ → List ℕ → ℕ
status_of t s = at s (length s - around_time - t)

-- The fields of octets with n octets of data and this status octet.
abbrev pub fields_of : List ℕ → ℕ → ℕ → Frame
fields_of s n status =
    record {
      destination = address_of (take address_length s);
      source = address_of (take address_length (drop address_length s));
      channel = at s channel_at / 8;
      master = record { 0 = at s master_at };
      count = record { 0 = at s count_at };
      pointer = at s pointer_at;
      telecommands = status % 4;
      length = n;
    }

unfoldable pub frame_of : ℕ → List ℕ → Frame
frame_of t s = fields_of s (data_length t s) (status_of t s)

-- The data and the time of a frame's octets; none if the octets have not all of them.
abbrev pub data_of : Frame → List ℕ → List ℕ
data_of f s = part s data_at f.length

abbrev pub time_of : Frame → ℕ → List ℕ → List ℕ
time_of f t s = part s (data_at + 1 + f.length) t

-- ---- the reader

-- The information of a frame: 13 to 15, else the fields.
unfoldable pub read_information : ℕ → List ℕ → Told Frame
read_information t s =
    pick (version_wrong (at s channel_at)) (refuse no_frame no.frame_version)
    (pick (status_wrong t (status_of t s)) (refuse no_frame no.frame_status)
    (pick (pointer_wrong (at s pointer_at) (data_length t s)) (refuse no_frame no.frame_pointer)
    (accept (frame_of t s))))

-- The octets before it, first: 120 to 123. An address tells its first wrong octet, counted in the frame.
unfoldable pub read_header : ℕ → List ℕ → Told Frame
read_header t s =
    pick (address_wrong (take address_length s) 0) (refuse_at no_frame no.frame_destination (first_wrong (take address_length s) 0))
    (pick (address_wrong (take address_length (drop address_length s)) 1) (refuse_at no_frame no.frame_source (address_length + first_wrong (take address_length (drop address_length s)) 1))
    (pick (control_wrong (at s control_at)) (refuse no_frame no.frame_control)
    (pick (protocol_wrong (at s protocol_at)) (refuse no_frame no.frame_protocol)
    (read_information t s))))

-- A single frame outside a session: 2, then 10, 11 (the last two octets, low octet first, aren't the check of those before), 120 to 123,
-- 13 to 15.
unfoldable pub read_frame : ℕ → List ℕ → Told Frame
read_frame t s =
    pick (ltb longest_time t) (refuse no_frame no.time_length)
    (pick (length_wrong t (length s)) (refuse no_frame no.frame_length)
    (pick (check_wrong low_first (ones 16) s) (refuse no_frame no.frame_check)
    (read_header t s)))
