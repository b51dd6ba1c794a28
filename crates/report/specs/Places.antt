-- Document 01, 'Reports': where the fields of a report stand in its packet, counted in octets from the packet's first, 0.
use Rattle.std.specs.Prelude.{ℕ}

-- The first field of every report: a telecommand's identity (2 octets), a SID (1) or an image's number (2).
abbrev pub first_at : ℕ
first_at = 14

-- Of success and failure: the telecommand's sequence control (2), and of failure the code (2).
abbrev pub control_at : ℕ
control_at = 16

abbrev pub code_at : ℕ
code_at = 18

-- Of housekeeping: what follows the SID.
abbrev pub rest_at : ℕ
rest_at = 15

-- Of an available image: its ticks (4), and the two blocks.
abbrev pub ticks_at : ℕ
ticks_at = 16

abbrev pub first_block_at : ℕ
first_block_at = 20

abbrev pub second_block_at : ℕ
second_block_at = 100

-- Of an image line: its number in the image, and its pixels.
abbrev pub line_at : ℕ
line_at = 16

abbrev pub pixels_at : ℕ
pixels_at = 17
