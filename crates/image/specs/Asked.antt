-- What the crate's private functions ask of their callers.
use Rattle.std.specs.Prelude.{ℕ, ◌<◌, ◌≡◌, List, length}
use Rattle.report.specs.Report.{pixels_of}
use Rattle.report.specs.declared.Content.{Content}
use Rattle.report.specs.declared.Content.TheVariants as content
use Rattle.image.specs.Line.{line_pixels, image_lines, Image, Room}

-- A content that, if it is a line, has its place in the image.
abbrev pub LineFits : Content → List ℕ → Type 0
LineFits (content.Line l) packet = (l.line < image_lines) × (length (pixels_of packet) ≡ line_pixels)
LineFits (content.Success c) packet = Unit {0}
LineFits (content.Failure c) packet = Unit {0}
LineFits (content.Housekeeping c) packet = Unit {0}
LineFits (content.Available c) packet = Unit {0}

-- Such a content, and room for an image.
pub record Brings (c : Content) (packet : List ℕ) (i : Image) : Type 0 where
  pub fits : LineFits c packet
  pub room : Room i
