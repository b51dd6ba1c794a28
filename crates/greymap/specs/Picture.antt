-- Document 02, M-114: an image as a binary greymap, and its line numbers as text.
use Rattle.std.specs.Prelude.{ℕ, Bool, ◌||◌, List, [], ◌∷◌, ◌++◌, length, take, drop, replicate, ltb, eqb}
use Rattle.octets.specs.Pick.{pick}
use Rattle.decimal.specs.Text.{each}
use Rattle.image.specs.Line.{line_pixels, image_lines, image_octets, Image}

-- "P5", newline, "188 120", newline, "255", newline.
abbrev pub header : List ℕ
header = 80 ∷ 53 ∷ 10 ∷ 49 ∷ 56 ∷ 56 ∷ 32 ∷ 49 ∷ 50 ∷ 48 ∷ 10 ∷ 50 ∷ 53 ∷ 53 ∷ 10 ∷ []

-- Limits: 15 octets of header, 22,575 octets with the pixels behind it.
abbrev pub header_octets : ℕ
header_octets = 15

abbrev pub greymap_octets : ℕ
greymap_octets = 22575

abbrev pub newline : ℕ
newline = 10

-- A line of pixels that are all 0.
unfoldable pub blank : List ℕ
blank = replicate line_pixels 0

-- A line with its number as it is shown: one that was not received, numbered 0, is blank.
unfoldable pub line_shown : ℕ → List ℕ → List ℕ
line_shown number pixels = pick (eqb number 0) blank pixels

-- Lines with these numbers as they are shown, one behind another.
abbrev pub lines_shown : List ℕ → List ℕ → List ℕ
lines_shown [] pixels = []
lines_shown (number ∷ numbers) pixels = line_shown number (take line_pixels pixels) ++ lines_shown numbers (drop line_pixels pixels)

-- The numbers of an image's lines, by its list.
abbrev pub numbers_of : List ℕ → List ℕ
numbers_of lines = take image_lines lines

-- An image's pixels as they are shown.
abbrev pub shown : Image → List ℕ
shown image = lines_shown (numbers_of image.lines) image.pixels

-- The greymap of an image.
unfoldable pub greymap_of : Image → List ℕ
greymap_of image = header ++ shown image

-- The numbers of its lines, a line of decimal text each.
unfoldable pub text_of : List ℕ → List ℕ
text_of lines = each newline (numbers_of lines) []

-- Refusal 40: image or line list too short.
abbrev pub short : Image → Bool
short image = ltb (length image.pixels) image_octets || ltb (length image.lines) image_lines
