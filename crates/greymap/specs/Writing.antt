-- Document 02, M-114: the writer.
use Rattle.std.specs.Prelude.{ℕ, ◌≡◌, Bool, ◌||◌, List, length, ltb, Ok, Err}
use Rattle.octets.specs.Parts.{written}
use Rattle.octets.specs.Pick.{pick}
use Rattle.answer.specs.Told.{Told, accept, refuse_for}
use Rattle.answer.specs.Refusals.{image_short, output_short}
use Rattle.image.specs.Line.{Image}
use Rattle.greymap.specs.Outcome.{Outcome, accepted, refused, Leaves}
use Rattle.greymap.specs.Picture.{greymap_of, text_of, short}
use Rattle.greymap.specs.declared.Lengths.{Lengths}
use Rattle.greymap.specs.Answers.{PictureWritten}

-- The two lent outputs: for the greymap, and for the text of the line numbers.
pub record Outputs : Type 0 where
  pub grey : List ℕ
  pub text : List ℕ

abbrev pub outputs : List ℕ → List ℕ → Outputs
outputs grey text = record { grey = grey; text = text }

abbrev pub lengths : ℕ → ℕ → Lengths
lengths grey text = record { grey = grey; text = text }

-- An answer tells both lengths, or the refusal and the lengths 0.
abbrev pub told : PictureWritten → Told Lengths
told (Ok l) = accept l
told (Err n) = refuse_for (lengths 0 0) n

abbrev pub observed : PictureWritten → Outputs → Outcome Lengths Outputs
observed answer out = record { answer = told answer; lent = out }

-- Refusal 50: either output too short.
unfoldable pub roomless : Image → Outputs → Bool
roomless image out = ltb (length out.grey) (length (greymap_of image)) || ltb (length out.text) (length (text_of image.lines))

-- 40, then 50, else both lengths; beyond them the outputs stay.
unfoldable pub writing : Image → Outputs → Outcome Lengths Outputs
writing image out =
    pick (short image) (refused (lengths 0 0) image_short out)
    (pick (roomless image out) (refused (lengths 0 0) output_short out)
    (accepted (lengths (length (greymap_of image)) (length (text_of image.lines)))
    (outputs (written (greymap_of image) out.grey) (written (text_of image.lines) out.text))))

-- The contract of `write`: the image, the outputs before, the answer, the outputs after.
abbrev pub Writes : Image → Outputs → PictureWritten → Outputs → Type 0
Writes image out answer out' = observed answer out' ≡ writing image out

-- A refusal tells the lengths 0, and both outputs stay.
abbrev pub WriteRefusalLeavesAll : Type 0
WriteRefusalLeavesAll =
    (image : Image) (out : Outputs) (answer : PictureWritten) (out' : Outputs) → Writes image out answer out' → Leaves (lengths 0 0) out
    (observed answer out')
