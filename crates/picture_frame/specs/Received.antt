-- What the packets that are handed out together leave of an image: each is placed on what the one before left, refusals are counted, and
-- the images are noted of which other lines came.
use Rattle.std.specs.Prelude.{ℕ, ◌+◌, ◌<◌, ◌≡◌, List, [], ◌∷◌, true, eqb}
use Rattle.octets.specs.Parts.{part}
use Rattle.octets.specs.Pick.{pick}
use Rattle.answer.specs.Refusals.{image_other}
use Rattle.report.specs.Report.{read_report}
use Rattle.report.specs.declared.Content.{Content}
use Rattle.report.specs.declared.Content.TheVariants as content
use Rattle.report.specs.declared.Line.{Line}
use Rattle.image.specs.Line.{Image, image_of, Room}
use Rattle.image.specs.Placing.{Outcome, outcome}
use Rattle.telling.specs.Counts.{counted}
use Rattle.picture_images.specs.Noted.{noted}

-- An image with its line numbers, how many packets were refused, by the refusal's number, and the images of which other lines came.
pub record Received : Type 0 where
  pub image : Image
  pub refused : List ℕ
  pub images : List ℕ

abbrev pub received : List ℕ → List ℕ → List ℕ → List ℕ → Received
received pixels lines refused images = record { image = image_of pixels lines; refused = refused; images = images }

-- The image that a report brings a line of.
abbrev pub brought_of : Content → ℕ
brought_of (content.Line l) = l.image
brought_of (content.Success c) = 0
brought_of (content.Failure c) = 0
brought_of (content.Housekeeping c) = 0
brought_of (content.Available c) = 0

unfoldable pub image_in : List ℕ → ℕ
image_in packet = brought_of (read_report packet).fields.content

-- By what placing a packet comes to: its refusal is counted, and of one with 41, a line of another image, that image is noted.
abbrev pub left_by : List ℕ → Received → Outcome → Received
left_by packet r o = record {
  image = o.image;
  refused = pick o.answer.accepted r.refused (counted r.refused o.answer.refusal);
  images = pick (eqb o.answer.refusal image_other) (noted r.images (image_in packet)) r.images;
}

unfoldable pub leaving : List ℕ → ℕ → ℕ → Received → Received
leaving packet arrival wanted r = left_by packet r (outcome packet arrival wanted r.image)

-- Packets of one frame, placed one after the other.
abbrev pub all_placed : ℕ → ℕ → Received → List (List ℕ) → Received
all_placed arrival wanted r [] = r
all_placed arrival wanted r (p ∷ ps) = all_placed arrival wanted (leaving p arrival wanted r) ps

-- The packets that stand end to end in octets from an index on, by their lengths.
abbrev pub packets_in : List ℕ → ℕ → List ℕ → List (List ℕ)
packets_in octets from [] = []
packets_in octets from (n ∷ ns) = part octets from n ∷ packets_in octets (from + n) ns

-- ---- what is noted

-- Each packet that is a line of another image than the wanted one has its image noted, where there is room for an image.
abbrev pub NotesOthers : Type 0
NotesOthers =
    (packet : List ℕ) (arrival wanted : ℕ) (r : Received) (l : Line) → Room r.image → 0 < arrival → (read_report packet).accepted ≡ true
    → (read_report packet).fields.content ≡ content.Line l → (l.image ≡ wanted → ⊥)
    → (leaving packet arrival wanted r).images ≡ noted r.images l.image
