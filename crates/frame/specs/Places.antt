-- Document 01, 'Frames': where each field of a frame stands, counted in octets from the frame's first, 0.
use Rattle.std.specs.Prelude.{ℕ}

-- How many octets an address has; the destination's come first, then the source's.
abbrev pub address_length : ℕ
address_length = 7

-- Behind both addresses: control and protocol.
abbrev pub control_at : ℕ
control_at = 14

abbrev pub protocol_at : ℕ
protocol_at = 15

-- The secondary header: version and channel, both counts, the pointer.
abbrev pub channel_at : ℕ
channel_at = 16

abbrev pub master_at : ℕ
master_at = 17

abbrev pub count_at : ℕ
count_at = 18

abbrev pub pointer_at : ℕ
pointer_at = 19

-- The data; the status octet follows it, then the time.
abbrev pub data_at : ℕ
data_at = 20

-- The status octet and the check's two: what stands around the time.
abbrev pub around_time : ℕ
around_time = 3
