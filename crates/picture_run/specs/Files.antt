-- An image as octets: its greymap, and the text of its line numbers.
use Rattle.std.specs.Prelude.{ℕ, ◌*◌, ◌≤◌, ◌≡◌, List, [], ◌∷◌, Bool, true, false, ◌&&◌, eqb, length}
use Rattle.octets.specs.Parts.{part}
use Rattle.decimal.specs.Text.{longest_number}
use Rattle.image.specs.Line.{image_lines, Image, Room}
use Rattle.greymap.specs.Picture.{greymap_octets, greymap_of, text_of}
use Rattle.greymap.specs.declared.Lengths.{Lengths}

-- A whole image, and room for both.
pub record Drawable (image : Image) (out list : List ℕ) : Type 0 where
  pub whole : Room image
  pub grey : greymap_octets ≤ length out
  pub text : longest_number * image_lines ≤ length list

-- The octets that are left: the greymap of the image, and the text of its line numbers.
pub record Drawn (image : Image) (r : Lengths) (out list : List ℕ) : Type 0 where
  pub grey : part out 0 r.grey ≡ greymap_of image
  pub text : part list 0 r.text ≡ text_of image.lines

-- What is written of an image: the text of its line numbers, or the greymap.
abbrev pub shown_of : Bool → Image → List ℕ
shown_of true image = text_of image.lines
shown_of false image = greymap_of image

-- Whether no line was received: none has the number of a frame.
abbrev pub no_line : List ℕ → Bool
no_line [] = true
no_line (n ∷ ns) = eqb n 0 && no_line ns
