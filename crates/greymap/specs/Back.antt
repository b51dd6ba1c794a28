-- Document 02, M-114, over the calls: what is written reads back, and what is accepted is what the writer gives for it.
use Rattle.std.specs.Prelude.{ℕ, ◌≤◌, ◌≡◌, false, List, length, take, Ok}
use Rattle.octets.specs.Numbers.{at}
use Rattle.octets.specs.Parts.{written}
use Rattle.decimal.specs.Read.{Of32Bits}
use Rattle.image.specs.Line.{Image, image_of}
use Rattle.greymap.specs.Picture.{numbers_of, shown, greymap_octets, greymap_of, short}
use Rattle.greymap.specs.Writing.{Outputs, lengths, Writes}
use Rattle.greymap.specs.Reading.{Reads}
use Rattle.greymap.specs.declared.Lengths.{Lengths}
use Rattle.greymap.specs.Answers.{PictureRead}
use Rattle.greymap.specs.Answers.{PictureWritten}

-- A greymap has 22,575 octets.
abbrev pub GreymapLength : Type 0
GreymapLength = (image : Image) → short image ≡ false → length (greymap_of image) ≡ greymap_octets

-- What a call of `write` gave for an image, every call of `read` with room gives back: the pixels, those of a line numbered 0 as 0, and the
-- numbers.
abbrev pub CallsReadBack : Type 0
CallsReadBack =
    (image : Image) (out : Outputs) (l : Lengths) (out' : Outputs) → ((i : ℕ) → Of32Bits (at image.lines i))
    → Writes image out (Ok l) out'
    → (before : Image) (answer : PictureRead) (after : Image) → short before ≡ false
    → Reads (take l.grey out'.grey) (take l.text out'.text) before answer after
    → (answer ≡ (Ok tt)) × (after ≡ image_of (written (shown image) before.pixels) (written (numbers_of image.lines) before.lines))

-- `write` answers the lengths of these octets and leaves them at its outputs' starts.
pub record Gave (octets characters : List ℕ) (answer : PictureWritten) (out' : Outputs) : Type 0 where
  pub answers : answer ≡ Ok (lengths (length octets) (length characters))
  pub grey : take (length octets) out'.grey ≡ octets
  pub text : take (length characters) out'.text ≡ characters

-- What a call of `read` accepted is what every call of `write` gives for the image that it left, on outputs with room.
abbrev pub CallsWriteBack : Type 0
CallsWriteBack =
    (grey text : List ℕ) (before after : Image) → Reads grey text before (Ok tt) after
    → (out : Outputs) (answer : PictureWritten) (out' : Outputs) → length grey ≤ length out.grey → length text ≤ length out.text
    → Writes after out answer out' → Gave grey text answer out'
