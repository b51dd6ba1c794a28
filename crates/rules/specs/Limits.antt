-- Document 01, 'The session': its limits. Those of a frame and of a packet are frame's and packet's own.
use Rattle.std.specs.Prelude.{ℕ}

-- The octets that a channel holds of a packet that is not whole.
abbrev pub most_held : ℕ
most_held = 250

-- A frame's octets of data.
abbrev pub most_data : ℕ
most_data = 251

-- The packets that one frame completes, and their octets.
abbrev pub most_packets : ℕ
most_packets = 16

abbrev pub most_octets : ℕ
most_octets = 501

-- The packet headers that one frame completes, and those of one by the rules.
abbrev pub most_headers : ℕ
most_headers = 17

abbrev pub most_sent : ℕ
most_sent = 16

-- The virtual channels of a session.
abbrev pub virtual_channels : ℕ
virtual_channels = 8

-- The last arrival number.
abbrev pub last_number : ℕ
last_number = 4294967295
