-- Document 01, 'Numbers given when something is turned away', in its order; of document 02, 120 to 123 in the place of 12, and the others
-- behind.
use Rattle.std.specs.Prelude.{ℕ}

-- Under 501 octets, or under 16 lengths or 16 first arrival numbers lent.
abbrev pub room : ℕ
room = 1

-- Opening, or reading a single frame outside a session, with t above 8.
abbrev pub time_length : ℕ
time_length = 2

-- Arrival number 4,294,967,295 already used.
abbrev pub arrivals : ℕ
arrivals = 3

-- A session with t above 8, or with a channel that holds above 250 octets, or any while out of step, or six or more whose packet's length
-- is outside 16 to 251 or not above the number held.
abbrev pub session : ℕ
session = 4

-- Frame shorter than 23 + t or longer than 274.
abbrev pub frame_length : ℕ
frame_length = 10

-- Frame check wrong.
abbrev pub frame_check : ℕ
frame_check = 11

-- Destination address wrong.
abbrev pub frame_destination : ℕ
frame_destination = 120

-- Source address wrong.
abbrev pub frame_source : ℕ
frame_source = 121

-- Control octet wrong.
abbrev pub frame_control : ℕ
frame_control = 122

-- Protocol octet wrong.
abbrev pub frame_protocol : ℕ
frame_protocol = 123

-- Frame version or spare not 0.
abbrev pub frame_version : ℕ
frame_version = 13

-- Time flag isn't t's, or status spare not 0.
abbrev pub frame_status : ℕ
frame_status = 14

-- Pointer wrong.
abbrev pub frame_pointer : ℕ
frame_pointer = 15

-- Stretch of bits: not whole octets.
abbrev pub stretch_octets : ℕ
stretch_octets = 16

-- Stretch of bits: abandoned.
abbrev pub stretch_abandoned : ℕ
stretch_abandoned = 17

-- KISS: a wrong or cut escape.
abbrev pub escape : ℕ
escape = 18

-- KISS: another type octet.
abbrev pub type_octet : ℕ
type_octet = 19

-- Packet outside 16 to 251, or not C + 7.
abbrev pub packet_length : ℕ
packet_length = 20

-- Packet check wrong.
abbrev pub packet_check : ℕ
packet_check = 21

-- Another fixed packet bit wrong.
abbrev pub packet_bits : ℕ
packet_bits = 22

-- Pair unknown.
abbrev pub pair : ℕ
pair = 30

-- Source data length wrong.
abbrev pub source_length : ℕ
source_length = 31

-- Line above 119.
abbrev pub line : ℕ
line = 32

-- Placing: not (128,7).
abbrev pub not_line : ℕ
not_line = 33

-- Image or line list too short.
abbrev pub image_short : ℕ
image_short = 40

-- Another image number.
abbrev pub image_other : ℕ
image_other = 41

-- Line held with other pixels.
abbrev pub line_held : ℕ
line_held = 42

-- Placing with arrival number 0.
abbrev pub no_arrival : ℕ
no_arrival = 43

-- Sequence list too short.
abbrev pub list_short : ℕ
list_short = 44

-- That APID's entry above 16,384.
abbrev pub entry : ℕ
entry = 45

-- APID above 2,047 or count above 16,383.
abbrev pub count_range : ℕ
count_range = 46

-- Writer: output too short.
abbrev pub output_short : ℕ
output_short = 50

-- Writer: a field out of range.
abbrev pub field_range : ℕ
field_range = 51

-- Sender: a packet that the packet reader turns away.
abbrev pub packet_turned_away : ℕ
packet_turned_away = 52

-- Sender: data length out of range.
abbrev pub data_length : ℕ
data_length = 53

-- A layout's code unknown, or the layout empty or above 64.
abbrev pub layout_codes : ℕ
layout_codes = 60

-- Layout not a whole number of octets.
abbrev pub layout_width : ℕ
layout_width = 61

-- The parameters aren't one or more whole sequences.
abbrev pub sequences : ℕ
sequences = 62

-- Readings: not (3,25).
abbrev pub not_housekeeping : ℕ
not_housekeeping = 63

-- Table file badly formed, or a width not 1 to 8.
abbrev pub table_form : ℕ
table_form = 70

-- Rows out of order.
abbrev pub row_order : ℕ
row_order = 71

-- No such packet or column, or a packet that the packet reader turns away.
abbrev pub row_packet : ℕ
row_packet = 72

-- Value absent or different.
abbrev pub row_value : ℕ
row_value = 73

-- Claimed too early.
abbrev pub row_claim : ℕ
row_claim = 74

-- Greymap: header or length different.
abbrev pub greymap : ℕ
greymap = 80

-- Line list badly formed, or a number above 4,294,967,295.
abbrev pub line_list : ℕ
line_list = 81

-- A line numbered 0 with a pixel other than 0.
abbrev pub unnumbered_line : ℕ
unnumbered_line = 82
