-- The statements are about something: three packets of image 1, two of them copies of one line, and one in conflict with those.
use Rattle.std.specs.Prelude.{ℕ, ◌<◌, ◌≡◌, replicate}
use mathlib.Core.List.{List, [], ◌∷◌, Permᴰ}
use Rattle.octets.specs.Numbers.{at}
use Rattle.packet.specs.declared.Packet.{Packet}
use Rattle.report.specs.Report.{pixels_of}
use Rattle.report.specs.Write.{report_octets}
use Rattle.image.specs.Line.{line_pixels, image_lines, Image, Room}
use Rattle.image.specs.Back.{line_report}
use Rattle.image.specs.Answers.{Placed}
use Rattle.about_image.specs.Placings.{Arrived, line, row, Accepted, Agreeing, Placings}

-- 188 pixels alike.
abbrev pub all : ℕ → List ℕ
all pixel = replicate line_pixels pixel

-- What the writer gives for a line of image 1, with an arrival number.
abbrev pub fields : Packet
fields = record { apid = 6; sequence = record { 0 = 3 }; service = 128; subtype = 7; time = 0; length = 191 }

abbrev pub line_of : ℕ → ℕ → ℕ → Arrived
line_of n pixel arrival =
    record { packet = report_octets (line_report fields (record { image = 1; line = n })) (all pixel ∷ []); arrival = arrival }

abbrev pub three : List Arrived
three = line_of 0 1 9 ∷ line_of 1 2 4 ∷ line_of 0 1 3 ∷ []

-- An image of which nothing was received.
pub record Empty (held : Image) : Type 0 where
  pub room : Room held
  pub none : (n : ℕ) → n < image_lines → at held.lines n ≡ 0

-- The three lines: the copies' pixels and the smaller of their numbers; another line stays.
pub record Three (held after : Image) : Type 0 where
  pub first : row after 0 ≡ all 1
  pub first-number : at after.lines 0 ≡ 3
  pub second : row after 1 ≡ all 2
  pub second-number : at after.lines 1 ≡ 4
  pub third : row after 2 ≡ row held 2
  pub third-number : at after.lines 2 ≡ 0

-- They agree, and are left so in any order.
abbrev pub ThreeLines : Type 0
ThreeLines =
    (held : Image) → Empty held → Agreeing 1 held three
    × ((after : Image) (t : List Arrived) (xs : List Placed) → Permᴰ three t → Placings 1 held t xs after → Three held after)

-- Two packets of line 0 with two sets of pixels, each of which would be accepted.
abbrev pub TwoSets : Type 0
TwoSets =
    (held : Image) → Empty held
    → Accepted 1 held (line_of 0 1 9) × Accepted 1 held (line_of 0 2 8) × (line (line_of 0 1 9) ≡ line (line_of 0 2 8))
    × (pixels_of (line_of 0 1 9).packet ≡ pixels_of (line_of 0 2 8).packet → ⊥)
