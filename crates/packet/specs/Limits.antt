-- Document 01, 'The packet': its limits.
use Rattle.std.specs.Prelude.{ℕ}

-- The fewest octets of a packet, without source data, the most, and the most octets of source data.
abbrev pub least_length : ℕ
least_length = 16

abbrev pub greatest_length : ℕ
greatest_length = 251

abbrev pub longest_source : ℕ
longest_source = 235

-- Where the source data starts.
abbrev pub source_at : ℕ
source_at = 14

-- APID: 11 bits; source sequence count: 14; time: 40.
abbrev pub last_apid : ℕ
last_apid = 2047

abbrev pub last_count : ℕ
last_count = 16383

abbrev pub last_time : ℕ
last_time = 1099511627775
