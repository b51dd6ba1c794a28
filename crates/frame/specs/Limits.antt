-- Document 01, 'The frame': the limits that belong to the frame format.
use Rattle.std.specs.Prelude.{ℕ, ◌-◌}

-- The fewest octets of a frame, without data and time, and the most.
abbrev pub least_length : ℕ
least_length = 23

abbrev pub greatest_length : ℕ
greatest_length = 274

-- The most octets of a time, and of data beside a time of t octets.
abbrev pub longest_time : ℕ
longest_time = 8

abbrev pub longest_data : ℕ → ℕ
longest_data t = 251 - t

-- Channel: 3 bits; telecommand count: 2; SSID: 4.
abbrev pub last_channel : ℕ
last_channel = 7

abbrev pub most_telecommands : ℕ
most_telecommands = 3

abbrev pub last_ssid : ℕ
last_ssid = 15

-- Pointers that are no place: no packet header starts here; raw data and no packet octets.
abbrev pub none_starts : ℕ
none_starts = 255

abbrev pub raw_data : ℕ
raw_data = 254
