-- Both files of an image have room, and so nothing is refused.
use Rattle.std.specs.Prelude.{Ok, Err}
use Prim.Native.Nat.{ℕ, ◌*◌, ◌≤◌}
use mathlib.Core.Path.{◌≡◌, refl, sym, ap, ◌∙◌}
use mathlib.Core.List.{List, []}
use mathlib.Core.Bool.{false, true≢false}
use native.Mathlib.Omega.{arith}
use lib.ListN.{length, drop, length-append}
use lib.Seq.{length-take-le, take-append_seam}
use borrow.Author.Tests.{le-ltb}
use Rattle.octets.specs.Parts.{part, written}
use Rattle.octets.proofs.Choices.{passed}
use Rattle.octets.proofs.Placing.{part-some}
use Rattle.decimal.specs.Text.{longest_number}
use Rattle.decimal.proofs.Short.{each-short}
use Rattle.answer.specs.declared.Reason.{Reason}
use Rattle.image.specs.Line.{image_lines, Image}
use Rattle.greymap.specs.Outcome.{Outcome, accepted}
use Rattle.greymap.specs.Picture.{newline, numbers_of, greymap_of, text_of, short}
use Rattle.greymap.specs.Writing.{Outputs, outputs, lengths, told, observed, roomless, writing, Writes}
use Rattle.greymap.specs.declared.Lengths.{Lengths}
use Rattle.greymap.specs.Answers.{PictureWritten}
use Rattle.greymap.proofs.Wrote.{greymap-length}
use Rattle.picture_run.specs.Files.{Drawable, Drawn}

module _ (image : Image) (out : Outputs) (d : Drawable image out.grey out.text) where
  whole : short image ≡ false
  whole = simp (le-ltb _ _ d.whole.pixels, le-ltb _ _ d.whole.lines)

  text-short : length (text_of image.lines) ≤ longest_number * image_lines
  unfolding text_of
  text-short = omega (arith, each-short newline (numbers_of image.lines) [], length-take-le image_lines image.lines d.whole.lines)

  fits : roomless image out ≡ false
  unfolding roomless
  fits =
      simp (
        le-ltb (length out.grey) (length (greymap_of image)) (omega (arith, d.grey, greymap-length image whole)),
        le-ltb
            (length out.text) (length (text_of image.lines)) (omega (arith, d.text, text-short)),
      )

  both : accepted (lengths (length (greymap_of image)) (length (text_of image.lines)))
      (outputs (written (greymap_of image) out.grey) (written (text_of image.lines) out.text)) ≡ writing image out
  unfolding writing
  both = passed _ _ _ _ whole (passed _ _ _ _ fits refl)

  -- the front of what was written
  front : (s o o' : List ℕ) (n : ℕ) → o' ≡ written s o → n ≡ length s → part o' 0 n ≡ s
  front s o o' n e m =
      ap (λ (k : ℕ). part o' 0 k) m
      ∙ ap (λ (x : List ℕ). part x 0 (length s)) e
      ∙ sym (part-some (written s o) 0 (length s) (omega (arith, length-append s (drop (length s) o))))
      ∙ take-append_seam s (drop (length s) o)

  module _ {out' : Outputs} where
    pub drawn : {r : PictureWritten} {l : Lengths} → r ≡ Ok l → Writes image out r out' → Drawn image l out'.grey
        out'.text
    drawn {r} {l} e w =
        let o : observed (Ok l) out' ≡ accepted (lengths (length (greymap_of image)) (length (text_of image.lines)))
        (outputs (written (greymap_of image) out.grey) (written (text_of image.lines) out.text)) = ap
        (λ (x : PictureWritten). observed x out') (sym e) ∙ w ∙ sym both in
        record {
          grey = front _ _ _ _ (ap (λ (x : Outcome Lengths Outputs). x.lent.grey) o)
              (ap (λ (x : Outcome Lengths Outputs). x.answer.fields.grey) o);
          text = front _ _ _ _ (ap (λ (x : Outcome Lengths Outputs). x.lent.text) o)
              (ap (λ (x : Outcome Lengths Outputs). x.answer.fields.text) o);
        }

    pub never_refused : {r : PictureWritten} {n : Reason} → r ≡ Err n → Writes image out r out' → ⊥
    never_refused {r} {n} e w =
        let o : observed r out' ≡ accepted (lengths (length (greymap_of image)) (length (text_of image.lines)))
        (outputs (written (greymap_of image) out.grey) (written (text_of image.lines) out.text)) = w ∙ sym both in
        true≢false (sym (ap (λ (x : Outcome Lengths Outputs). x.answer.accepted) o) ∙ ap (λ (x : PictureWritten). (told x).accepted) e)
