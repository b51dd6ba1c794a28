-- Document 01, 'Image and sequence': what placing one line does to an image and its list of line numbers.
use Rattle.std.specs.Prelude.{ℕ, min, ◌+◌, ◌*◌, ◌≤◌, ◌<◌, ◌≡◌, Bool, not, ◌&&◌, List, length, set, eqb}
use Rattle.octets.specs.Numbers.{at}
use Rattle.octets.specs.Parts.{part, overlay}
use Rattle.octets.specs.Pick.{pick}
use Rattle.octets.specs.Same.{same}
use Rattle.report.specs.Limits.{last_line, pixels_length}

-- Limits: the pixels of a line are those of its report, 188; the last line is 119, so there are 120, and 22,560 octets.
abbrev pub line_pixels : ℕ
line_pixels = pixels_length

abbrev pub image_lines : ℕ
image_lines = last_line + 1

abbrev pub image_octets : ℕ
image_octets = line_pixels * image_lines

-- The pixels of an image, and for each line its number: 0 for "not received", else an arrival number.
pub record Image : Type 0 where
  pub pixels : List ℕ
  pub lines : List ℕ

-- A line to be placed: which, its 188 pixels, and its arrival number.
pub record Line : Type 0 where
  pub line : ℕ
  pub pixels : List ℕ
  pub arrival : ℕ

abbrev pub image_of : List ℕ → List ℕ → Image
image_of pixels lines = record { pixels = pixels; lines = lines }

abbrev pub line_of : ℕ → List ℕ → ℕ → Line
line_of line pixels arrival = record { line = line; pixels = pixels; arrival = arrival }

-- Line n goes to octets 188n to 188n + 187.
abbrev pub start : ℕ → ℕ
start n = line_pixels * n

-- Refusal 42: line n is held, with other pixels.
unfoldable pub held_otherwise : Image → ℕ → List ℕ → Bool
held_otherwise image n pixels = not (eqb (at image.lines n) 0) && not (same (part image.pixels (start n) line_pixels) pixels)

-- The line's number: the arrival number; of a line that is held, the smaller of the two.
unfoldable pub number : ℕ → ℕ → ℕ
number held arrival = pick (eqb held 0) arrival (min arrival held)

-- What placing an accepted line leaves.
abbrev pub placed : Image → Line → Image
placed image l =
    record {
      pixels = overlay image.pixels (start l.line) l.pixels;
      lines = set image.lines l.line (number (at image.lines l.line) l.arrival);
    }

-- Room for an image and its list of line numbers.
pub record Room (i : Image) : Type 0 where
  pub pixels : image_octets ≤ length i.pixels
  pub lines : image_lines ≤ length i.lines

-- A line that has its place in an image.
pub record Fits (i : Image) (l : Line) : Type 0 where
  pub line : l.line < image_lines
  pub pixels : length l.pixels ≡ line_pixels
  pub room : Room i
