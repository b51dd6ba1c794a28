-- Document 01, 'Reports': the limits of an image line and of an available image.
use Rattle.std.specs.Prelude.{ℕ}

-- The last line of an image, and how many pixels a line has.
abbrev pub last_line : ℕ
last_line = 119

abbrev pub pixels_length : ℕ
pixels_length = 188

-- How many octets each of the two blocks of an available image has.
abbrev pub block_length : ℕ
block_length = 80
