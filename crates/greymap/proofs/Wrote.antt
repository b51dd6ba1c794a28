-- The ends of `write`, and the text that it puts.
use Rattle.std.specs.Prelude.{Ok, Err}
use Prim.Native.Nat.{ℕ, ◌+◌, ◌*◌, ◌≤◌, ◌<◌}
use native.Mathlib.Omega.{arith}
use native.Mathlib.Nat.{zero-add}
use mathlib.Core.Path.{◌≡◌, refl, sym, ap, ◌∙◌}
use mathlib.Core.List.{List, []}
use mathlib.Core.Bool.{Bool, true, false, ◌||◌}
use lib.ListN.{length, take, drop, length-append}
use lib.Seq.{length-take-le, take_at}
use lib.Dec.{ltb}
use borrow.Author.Tests.{lt-ltb, le-ltb, ltb-false}
use Rattle.octets.specs.Parts.{part, put, written}
use Rattle.octets.proofs.Choices.{picked, passed}
use Rattle.octets.proofs.Placing.{part-some, put-none, put_first}
use Rattle.octets.proofs.Tests.{or_left, or_right}
use Rattle.answer.specs.declared.Reason.TheVariants.{ImageShort, OutputShort}
use Rattle.decimal.specs.Text.{longest_number, each}
use Rattle.decimal.specs.Laid.{Puts}
use Rattle.decimal.proofs.Laid.{numbers-laid}
use Rattle.image.specs.Line.{image_lines, image_octets, Image, Room}
use Rattle.greymap.specs.Picture.{header, greymap_octets, newline, numbers_of, lines_shown, greymap_of, text_of, short}
use Rattle.greymap.specs.Writing.{Outputs, outputs, lengths, observed, roomless, writing}
use Rattle.greymap.specs.Back.{GreymapLength}
use Rattle.greymap.specs.Asked.{PutText}
use Rattle.greymap.proofs.Shown.{lines-length}

-- an image that is not too short
pub room_of : (image : Image) → short image ≡ false → Room image
room_of image h = record {
  pixels = ltb-false (length image.pixels) image_octets
      (or_left (ltb (length image.pixels) image_octets) (ltb (length image.lines) image_lines) h);
  lines = ltb-false (length image.lines) image_lines
      (or_right (ltb (length image.pixels) image_octets) (ltb (length image.lines) image_lines) h);
}

pub greymap-length : GreymapLength
unfolding greymap_of
greymap-length image h =
    let r = room_of image h in
    let wide = r.pixels in
    let many = r.lines in
    let k : length (numbers_of image.lines) ≡ image_lines = length-take-le image_lines image.lines many in
    length-append header (lines_shown (numbers_of image.lines) image.pixels) ∙ omega
    (arith, k, lines-length (numbers_of image.lines) image.pixels (omega arith))

-- the line numbers, laid into a list of their own and put from there
pub text-put : (lines list list' text text' row : List ℕ) (n : ℕ) → image_lines ≤ length lines → length list ≡ longest_number * image_lines
    → length list' ≡ length list
    → Puts (longest_number * length (numbers_of lines)) (each newline (numbers_of lines) []) list 0 list' n
    → row ≡ part list' 0 n → text' ≡ put text 0 row → PutText lines text n text'
unfolding text_of
text-put lines list list' text text' row n many long same p e put' =
    let ns : List ℕ = numbers_of lines in
    let k : length ns ≡ image_lines = length-take-le image_lines lines many in
    let l = numbers-laid newline ns (omega arith) p in
    let s : List ℕ = each newline ns [] in
    let m : n ≡ length s = l.behind ∙ zero-add (length s) in
    let whole : row ≡ s =
    e ∙ sym (part-some list' 0 n (omega (arith, l.near))) ∙ ap (take n) l.leaves ∙ take_at s (drop (0 + length s) list) n (sym m) in
    record { answers = m; leaves = put' ∙ ap (put text 0) whole }

-- the answers, one for each end
module _ (image : Image) (out : Outputs) where
  pub image-short : {said : Bool} → said ≡ short image → said ≡ true → observed (Err ImageShort) out ≡ writing image out
  unfolding writing
  image-short e h = picked _ _ _ (sym e ∙ h)

  module _ {said : Bool} (e : said ≡ short image) (h : said ≡ false) where
    long : length (greymap_of image) ≡ greymap_octets
    long = greymap-length image (sym e ∙ h)

    pub grey-short : length out.grey < greymap_octets → observed (Err OutputShort) out ≡ writing image out
    unfolding writing roomless
    grey-short s = passed _ _ _ _ (sym e ∙ h)
        (picked _ _ _ (ap (λ (b : Bool). b || ltb (length out.text) (length (text_of image.lines)))
        (lt-ltb (length out.grey) (length (greymap_of image)) (omega (arith, long)))))

    module _ {n : ℕ} {text' : List ℕ} (p : PutText image.lines out.text n text') (same : length text' ≡ length out.text)
        (room : greymap_octets ≤ length out.grey) where
      grey-fits : {b : Bool} → (ltb (length out.grey) (length (greymap_of image)) || b) ≡ b
      grey-fits {b} = ap (λ (t : Bool). t || b) (le-ltb (length out.grey) (length (greymap_of image)) (omega (arith, long)))

      pub text-short : length text' < n → observed (Err OutputShort) (outputs out.grey text') ≡ writing image out
      unfolding writing roomless
      text-short s =
          let m = p.answers in
          let stays : text' ≡ out.text = p.leaves ∙ sym (put-none out.text 0 (text_of image.lines) (omega arith)) in
          ap (λ (t : List ℕ). observed (Err OutputShort) (outputs out.grey t)) stays
          ∙ passed _ _ _ _ (sym e ∙ h) (picked _ _ _
          (grey-fits ∙ lt-ltb (length out.text) (length (text_of image.lines)) (omega arith)))

      pub both-written : {grey' : List ℕ} → n ≤ length text' → grey' ≡ written (greymap_of image) out.grey
          → observed (Ok (lengths greymap_octets n)) (outputs grey' text') ≡ writing image out
      unfolding writing roomless
      both-written {grey'} s w =
          let m = p.answers in
          let t : text' ≡ written (text_of image.lines) out.text = p.leaves ∙ put_first (text_of image.lines) out.text
          (omega arith) in
          passed _ _ _ _ (sym e ∙ h) (passed _ _ _ _
          (grey-fits ∙ le-ltb (length out.text) (length (text_of image.lines)) (omega arith)) (rw (sym long, m, w, t) refl))
