-- Demand 2 for image lines: a line that the report's writer gave is placed, and what was placed is what the writer gives. (With the
-- generated contracts: proofs/Calls.)
use Rattle.std.specs.Prelude.{ℕ, ◌≤◌, ◌<◌, ◌≡◌, false, List, [], ◌∷◌, length, take, Ok}
use Rattle.octets.specs.Numbers.{at}
use Rattle.answer.specs.Back.{Format}
use Rattle.answer.specs.Writer.{Gave}
use Rattle.answer.specs.Writer.{Written}
use Rattle.packet.specs.declared.Packet.{Packet}
use Rattle.report.specs.Write.{report_wrong, report_octets}
use Rattle.report.specs.declared.Report.{Report}
use Rattle.report.specs.Answers.{ReportRead}
use Rattle.report.specs.declared.Content.TheVariants as content
use Rattle.image.specs.Line.{Image, Room, line_of, held_otherwise, placed}
use Rattle.image.specs.Placing.{Places}
use Rattle.image.specs.Answers.{Placed}
use Rattle.report.specs.declared.Line.{Line as ReportLine}

abbrev pub line_report : Packet → ReportLine → Report
line_report p l = record { packet = p; content = content.Line l }

-- Room for an image and its list, and an arrival number.
pub record Ready (image : Image) (arrival : ℕ) : Type 0 where
  pub room : Room image
  pub numbered : 0 < arrival

-- `place` answers this line, and leaves it placed.
pub record PlacedAs (before : Image) (line : ℕ) (pixels : List ℕ) (arrival : ℕ) (answer : Placed) (after : Image) : Type 0 where
  pub answers : answer ≡ Ok line
  pub leaves : after ≡ placed before (line_of line pixels arrival)

-- What the writer gives for a line is placed, if the line is not held with other pixels and its image is wanted.
abbrev pub PlacesOctets : Type 0
PlacesOctets =
    (p : Packet) (l : ReportLine) (pixels : List ℕ) (arrival : ℕ) (before : Image) (answer : Placed) (after : Image)
    → report_wrong (line_report p l) (pixels ∷ []) ≡ false → Ready before arrival → held_otherwise before l.line pixels ≡ false
    → Places (report_octets (line_report p l) (pixels ∷ [])) arrival l.image before answer after
    → PlacedAs before l.line pixels arrival answer after

-- Over calls: f has those of the reports, by their generated contracts, and PlacesBy those of `place`.
module _ (f : Format Report (List (List ℕ)) ReportRead) (PlacesBy : List ℕ → ℕ → ℕ → Image → Placed → Image → Type 0) where
  -- What a call of `Line::write` wrote, given to `place`.
  abbrev pub PlacesWritten : Type 0
  PlacesWritten =
      (p : Packet) (l : ReportLine) (pixels out : List ℕ) (n : ℕ) (out' : List ℕ) (arrival : ℕ) (before : Image) (answer : Placed)
      (after : Image) → f.Writes (line_report p l) (pixels ∷ []) out (Ok n) out' → Ready before arrival
      → held_otherwise before l.line pixels ≡ false → PlacesBy (take n out') arrival l.image before answer after
      → PlacedAs before l.line pixels arrival answer after

  -- The call of the reader on this packet gave q, the fields of line n of the wanted image. With the pixels that `Line::pixels` finds,
  -- nothing but this line is placed, and the writer's call gives the packet.
  pub record LineOf (packet : List ℕ) (arrival wanted n : ℕ) (before after : Image) (q : ReportRead) : Type 0 where
    pub packet_fields : Packet
    pub line_fields : ReportLine
    pub read : q ≡ f.accepting (line_report packet_fields line_fields)
    pub line : line_fields.line ≡ n
    pub image : line_fields.image ≡ wanted
    pub leaves :
        (pixels : List ℕ) → f.Finds (line_report packet_fields line_fields) packet (pixels ∷ [])
        → after ≡ placed before (line_of n pixels arrival)
    pub gives :
        (pixels : List ℕ) → f.Finds (line_report packet_fields line_fields) packet (pixels ∷ [])
        → (out : List ℕ) (r : Written) (out' : List ℕ) → length packet ≤ length out
        → f.Writes (line_report packet_fields line_fields) (pixels ∷ []) out r out' → Gave packet r out'

  -- What a call of `place` placed is such a packet.
  abbrev pub WritesPlaced : Type 0
  WritesPlaced =
      (packet : List ℕ) (arrival wanted n : ℕ) (before after : Image) (q : ReportRead) → ((i : ℕ) → at packet i < 256)
      → PlacesBy packet arrival wanted before (Ok n) after → f.Reads packet q
      → LineOf packet arrival wanted n before after q
