-- Document 02, M-114: the reader.
use Rattle.std.specs.Prelude.{ℕ, ◌≡◌, Bool, false, not, ◌||◌, ◌&&◌, List, [], ◌∷◌, length, take, drop, eqb, Ok, Err}
use Rattle.octets.specs.Parts.{part, written}
use Rattle.octets.specs.Pick.{pick}
use Rattle.octets.specs.Same.{same}
use Rattle.answer.specs.Told.{Told, accept, refuse_for}
use Rattle.answer.specs.Refusals.{image_short, greymap, line_list, unnumbered_line}
use Rattle.decimal.specs.Read.{numbers_of, numbers_wrong}
use Rattle.image.specs.Line.{line_pixels, image_lines, image_octets, Image, image_of}
use Rattle.greymap.specs.Outcome.{Outcome, accepted, refused, Leaves}
use Rattle.greymap.specs.Picture.{header, header_octets, greymap_octets, newline, blank, short}
use Rattle.greymap.specs.Answers.{PictureRead}

-- An answer tells nothing but the refusal.
abbrev pub told : PictureRead → Told (Unit {0})
told (Ok u) = accept u
told (Err n) = refuse_for tt n

abbrev pub observed : PictureRead → Image → Outcome (Unit {0}) Image
observed answer image = record { answer = told answer; lent = image }

-- Refusal 80: not exactly 22,575 octets, or another of the header's 15.
abbrev pub greymap_wrong : List ℕ → Bool
greymap_wrong grey = not (eqb (length grey) greymap_octets) || not (same (part grey 0 header_octets) header)

-- The pixels behind the header.
abbrev pub pixels_in : List ℕ → List ℕ
pixels_in grey = part grey header_octets image_octets

-- Refusal 81: not exactly 120 numbers, each with one newline behind it.
abbrev pub text_wrong : List ℕ → Bool
text_wrong text = numbers_wrong image_lines newline text

abbrev pub numbers_in : List ℕ → List ℕ
numbers_in text = numbers_of image_lines text

-- Refusal 82: of lines with these numbers, one numbered 0 has a pixel other than 0.
abbrev pub unnumbered_wrong : List ℕ → List ℕ → Bool
unnumbered_wrong [] pixels = false
unnumbered_wrong (number ∷ numbers) pixels =
    (eqb number 0 && not (same (take line_pixels pixels) blank)) || unnumbered_wrong numbers (drop line_pixels pixels)

-- 40, 80, 81, 82, else the pixels and the numbers are left in what is lent; beyond them it stays.
unfoldable pub reading : List ℕ → List ℕ → Image → Outcome (Unit {0}) Image
reading grey text before =
    pick (short before) (refused tt image_short before)
    (pick (greymap_wrong grey) (refused tt greymap before)
    (pick (text_wrong text) (refused tt line_list before)
    (pick (unnumbered_wrong (numbers_in text) (pixels_in grey)) (refused tt unnumbered_line before)
    (accepted tt (image_of (written (pixels_in grey) before.pixels) (written (numbers_in text) before.lines))))))

-- The contract of `read`: the greymap, the text, the image with its line numbers before, the answer, and they after.
abbrev pub Reads : List ℕ → List ℕ → Image → PictureRead → Image → Type 0
Reads grey text before answer after = observed answer after ≡ reading grey text before

-- On a refusal nothing lent changes.
abbrev pub ReadRefusalLeavesAll : Type 0
ReadRefusalLeavesAll =
    (grey text : List ℕ) (before : Image) (answer : PictureRead) (after : Image) → Reads grey text before answer after → Leaves tt before
    (observed answer after)
