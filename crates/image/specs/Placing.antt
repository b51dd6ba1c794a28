-- Document 01, 'Image and sequence': placing, with its refusals.
use Rattle.std.specs.Prelude.{ℕ, ◌≡◌, false, not, ◌||◌, List, length, ltb, eqb, Ok, Err}
use Rattle.octets.specs.Pick.{pick}
use Rattle.answer.specs.Told.{Told, accept, refuse, refuse_for}
use Rattle.answer.specs.Refusals.{image_short, no_arrival, not_line, image_other, line_held}
use Rattle.report.specs.Report.{read_report, pixels_of}
use Rattle.report.specs.declared.Report.{Report}
use Rattle.report.specs.declared.Content.{Content}
use Rattle.report.specs.declared.Content.TheVariants as content
use Rattle.image.specs.Line.{image_lines, image_octets, Image, Line, line_of, held_otherwise, placed}
use Rattle.image.specs.Answers.{Placed}

-- An answer tells the line, or the refusal and 0.
abbrev pub told : Placed → Told ℕ
told (Ok n) = accept n
told (Err n) = refuse_for 0 n

-- What the call answers, and the image with its line numbers as it leaves them: as it is to be, and as a caller observes it.
pub record Outcome : Type 0 where
  pub answer : Told ℕ
  pub image : Image

abbrev pub observed : Placed → Image → Outcome
observed answer image = record { answer = told answer; image = image }

-- A refusal: its number, and nothing lent changes.
abbrev pub refused : ℕ → Image → Outcome
refused n image = record { answer = refuse 0 n; image = image }

-- Refusal 42, else the line is placed.
unfoldable pub placing : Image → Line → Outcome
placing image l =
    pick (held_otherwise image l.line l.pixels) (refused line_held image) (record { answer = accept l.line; image = placed image l })

-- What a packet's report brings: 33 for another report than a line, 41 for a line of another image.
unfoldable pub brought : List ℕ → ℕ → ℕ → Image → Content → Outcome
brought packet arrival wanted image (content.Line l) =
    pick (not (eqb l.image wanted)) (refused image_other image) (placing image (line_of l.line (pixels_of packet) arrival))
brought packet arrival wanted image (content.Success c) = refused not_line image
brought packet arrival wanted image (content.Failure c) = refused not_line image
brought packet arrival wanted image (content.Housekeeping c) = refused not_line image
brought packet arrival wanted image (content.Available c) = refused not_line image

-- What a report's reader gave for it: its refusals 20 to 22, 30, 31 and 32 first.
unfoldable pub reported : List ℕ → ℕ → ℕ → Image → Told Report → Outcome
reported packet arrival wanted image r =
    pick r.accepted (brought packet arrival wanted image r.fields.content) (refused r.refusal image)

-- 40, 43, then the report's 20 to 22, 30, 31 and 32, then 33, 41, 42. No packet has both 33 and 32: of 33 it isn't (128,7), of 32 it is.
unfoldable pub outcome : List ℕ → ℕ → ℕ → Image → Outcome
outcome packet arrival wanted image =
    pick (ltb (length image.pixels) image_octets || ltb (length image.lines) image_lines) (refused image_short image)
    (pick (eqb arrival 0) (refused no_arrival image) (reported packet arrival wanted image (read_report packet)))

-- The contract of `place`: the packet with its arrival number and the wanted image, what is lent before, the answer and what is lent after.
abbrev pub Places : List ℕ → ℕ → ℕ → Image → Placed → Image → Type 0
Places packet arrival wanted before answer after = observed answer after ≡ outcome packet arrival wanted before

-- A refusal tells 0 in every other field, and nothing lent changes.
abbrev pub RefusalLeavesAll : Type 0
RefusalLeavesAll =
    (packet : List ℕ) (arrival wanted : ℕ) (before : Image) (answer : Placed) (after : Image)
    → Places packet arrival wanted before answer after → (told answer).accepted ≡ false → ((told answer).fields ≡ 0) × (after ≡ before)
