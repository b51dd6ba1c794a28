-- What the crate's private functions ask of their callers, and what they promise them.
use Rattle.std.specs.Prelude.{ℕ, ◌≤◌, ◌≡◌, List, length, Option, Some, None}
use Rattle.octets.specs.Parts.{put}
use Rattle.octets.specs.Pick.{pick}
use Rattle.image.specs.Line.{image_lines, Image, Room}
use Rattle.greymap.specs.Picture.{greymap_octets, text_of}
use Rattle.greymap.specs.Reading.{text_wrong, numbers_in}

-- A whole image, and room for its greymap.
pub record Drawable (image : Image) (grey : List ℕ) : Type 0 where
  pub whole : Room image
  pub room : greymap_octets ≤ length grey

-- The length of the text of the line numbers, which was put at an output's start if it has room.
pub record PutText (lines text : List ℕ) (n : ℕ) (text' : List ℕ) : Type 0 where
  pub answers : n ≡ length (text_of lines)
  pub leaves : text' ≡ put text 0 (text_of lines)

-- What is read of a text: its numbers, unless it is wrong.
abbrev pub listed : List ℕ → Option (List ℕ)
listed text = pick (text_wrong text) None (Some (numbers_in text))

-- The numbers of an image's lines, and a whole greymap.
pub record Picture (list grey : List ℕ) : Type 0 where
  pub lines : length list ≡ image_lines
  pub octets : length grey ≡ greymap_octets
