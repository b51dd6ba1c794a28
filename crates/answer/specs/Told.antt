-- What an answer tells: whether it accepts, the refusal's number and the octet that is wrong, and the values.
use Rattle.std.specs.Prelude.{ℕ, ◌≡◌, List, [], ◌∷◌, Bool, true, false, ◌&&◌, eqb}
use Rattle.answer.specs.Refusals as no
use Rattle.answer.specs.declared.Refusal.{Refusal}
use Rattle.answer.specs.declared.Reason.{Reason}
use Rattle.answer.specs.declared.Reason.TheVariants.{Room, TimeLength, Arrivals, Session, FrameLength, FrameCheck, FrameDestination, FrameSource, FrameControl, FrameProtocol, FrameVersion, FrameStatus, FramePointer, StretchOctets, StretchAbandoned, Escape, TypeOctet, PacketLength, PacketCheck, PacketBits, Pair, SourceLength, Line, NotLine, ImageShort, ImageOther, LineHeld, NoArrival, ListShort, Entry, CountRange, OutputShort, FieldRange, PacketTurnedAway, DataLength, LayoutCodes, LayoutWidth, Sequences, NotHousekeeping, Greymap, LineList, UnnumberedLine}

pub record Told (A : Type 0) : Type 0 where
  pub accepted : Bool
  pub refusal : ℕ
  pub octet : ℕ
  pub fields : A

-- Accepted: no refusal, and the values.
abbrev pub accept : {A : Type 0} → A → Told A
accept a = record { accepted = true; refusal = 0; octet = 0; fields = a }

-- Refused: the number, the octet, and 0 in every other field (none says what that is).
abbrev pub refuse_at : {A : Type 0} → A → ℕ → ℕ → Told A
refuse_at none n octet = record { accepted = false; refusal = n; octet = octet; fields = none }

-- Of most refusals no octet is told: it is 0.
abbrev pub refuse : {A : Type 0} → A → ℕ → Told A
refuse none n = refuse_at none n 0

-- The number of a reason, and the octet of the frame that is wrong, 0 where none is told.
abbrev pub number_of : Reason → ℕ
number_of Room = no.room
number_of TimeLength = no.time_length
number_of Arrivals = no.arrivals
number_of Session = no.session
number_of FrameLength = no.frame_length
number_of FrameCheck = no.frame_check
number_of (FrameDestination n) = no.frame_destination
number_of (FrameSource n) = no.frame_source
number_of FrameControl = no.frame_control
number_of FrameProtocol = no.frame_protocol
number_of FrameVersion = no.frame_version
number_of FrameStatus = no.frame_status
number_of FramePointer = no.frame_pointer
number_of StretchOctets = no.stretch_octets
number_of StretchAbandoned = no.stretch_abandoned
number_of Escape = no.escape
number_of TypeOctet = no.type_octet
number_of PacketLength = no.packet_length
number_of PacketCheck = no.packet_check
number_of PacketBits = no.packet_bits
number_of Pair = no.pair
number_of SourceLength = no.source_length
number_of Line = no.line
number_of NotLine = no.not_line
number_of ImageShort = no.image_short
number_of ImageOther = no.image_other
number_of LineHeld = no.line_held
number_of NoArrival = no.no_arrival
number_of ListShort = no.list_short
number_of Entry = no.entry
number_of CountRange = no.count_range
number_of OutputShort = no.output_short
number_of FieldRange = no.field_range
number_of PacketTurnedAway = no.packet_turned_away
number_of DataLength = no.data_length
number_of LayoutCodes = no.layout_codes
number_of LayoutWidth = no.layout_width
number_of Sequences = no.sequences
number_of NotHousekeeping = no.not_housekeeping
number_of Greymap = no.greymap
number_of LineList = no.line_list
number_of UnnumberedLine = no.unnumbered_line

abbrev pub octet_of : Reason → ℕ
octet_of (FrameDestination n) = n
octet_of (FrameSource n) = n
octet_of Room = 0
octet_of TimeLength = 0
octet_of Arrivals = 0
octet_of Session = 0
octet_of FrameLength = 0
octet_of FrameCheck = 0
octet_of FrameControl = 0
octet_of FrameProtocol = 0
octet_of FrameVersion = 0
octet_of FrameStatus = 0
octet_of FramePointer = 0
octet_of StretchOctets = 0
octet_of StretchAbandoned = 0
octet_of Escape = 0
octet_of TypeOctet = 0
octet_of PacketLength = 0
octet_of PacketCheck = 0
octet_of PacketBits = 0
octet_of Pair = 0
octet_of SourceLength = 0
octet_of Line = 0
octet_of NotLine = 0
octet_of ImageShort = 0
octet_of ImageOther = 0
octet_of LineHeld = 0
octet_of NoArrival = 0
octet_of ListShort = 0
octet_of Entry = 0
octet_of CountRange = 0
octet_of OutputShort = 0
octet_of FieldRange = 0
octet_of PacketTurnedAway = 0
octet_of DataLength = 0
octet_of LayoutCodes = 0
octet_of LayoutWidth = 0
octet_of Sequences = 0
octet_of NotHousekeeping = 0
octet_of Greymap = 0
octet_of LineList = 0
octet_of UnnumberedLine = 0

-- The refusal for a reason.
abbrev pub refusal_of : Reason → Refusal
refusal_of r = record { number = number_of r; octet = octet_of r }

-- Refused for a reason.
abbrev pub refuse_for : {A : Type 0} → A → Reason → Told A
refuse_for none r = refuse_at none (number_of r) (octet_of r)

abbrev pub plain : ℕ → Refusal
plain n = record { number = n; octet = 0 }

-- A refusal's answer holds its number and 0 in every other field: these are the numbers of the fields.
abbrev pub all_zero : List ℕ → Bool
all_zero [] = true
all_zero (n ∷ ns) = eqb n 0 && all_zero ns

abbrev pub TellsNothing : {A R : Type 0} → (R → Told A) → (A → List ℕ) → Type 0
TellsNothing {A} {R} told numbers = (r : R) → (told r).accepted ≡ false → all_zero (numbers (told r).fields) ≡ true

-- No two values have the same numbers: so no field is left out of them.
abbrev pub NoneLeftOut : {A : Type 0} → (A → List ℕ) → Type 0
NoneLeftOut {A} numbers = (a b : A) → numbers a ≡ numbers b → a ≡ b
