-- A line of another image is refused with 41, and so its image is noted.
use Prim.Native.Nat.{ℕ, ◌<◌}
use mathlib.Core.Path.{◌≡◌, sym, ap, ◌∙◌}
use mathlib.Core.List.{List}
use mathlib.Core.Bool.{true, false, not, ◌||◌}
use native.Mathlib.Omega.{arith}
use borrow.Author.Tests.{ne_eqb, le-ltb}
use lib.Dec.{eqb, ltb}
use lib.ListN.{length}
use Rattle.octets.proofs.Choices.{picked, passed}
use Rattle.answer.specs.Refusals.{image_other}
use Rattle.report.specs.Report.{read_report}
use Rattle.report.specs.declared.Content.TheVariants as content
use Rattle.report.specs.declared.Line.{Line}
use Rattle.image.specs.Line.{Image, Room}
use Rattle.image.specs.Placing.{Outcome, refused, brought, reported, outcome}
use Rattle.picture_images.specs.Noted.{noted}
use Rattle.picture_frame.specs.Received.{brought_of, image_in, leaving, NotesOthers}

module _ (packet : List ℕ) (arrival wanted : ℕ) (image : Image) (l : Line) where
  other-brought : (l.image ≡ wanted → ⊥) → refused image_other image ≡ brought packet arrival wanted image (content.Line l)
  unfolding brought
  other-brought n = picked _ _ _ (ap not (ne_eqb l.image wanted n))

  other-refused : Room image → 0 < arrival → (read_report packet).accepted ≡ true → (read_report packet).fields.content ≡ content.Line l
      → (l.image ≡ wanted → ⊥) → refused image_other image ≡ outcome packet arrival wanted image
  unfolding outcome reported
  other-refused room some a e n =
      let z : eqb arrival 0 ≡ false = ne_eqb arrival 0 (λ e. omega arith) in
      let whole : (ltb (length image.pixels) 22560 || ltb (length image.lines) 120) ≡ false =
      simp (le-ltb _ _ room.pixels, le-ltb _ _ room.lines) in
      other-brought n ∙ ap (brought packet arrival wanted image) (sym e)
      ∙ passed _ _ _ _ whole (passed _ _ _ _ z (picked _ _ _ a))

pub notes-others : NotesOthers
unfolding leaving image_in
notes-others packet arrival wanted r l room some a e n =
    let o = other-refused packet arrival wanted r.image l room some a e n in
    sym (ap (noted r.images) (sym (ap brought_of e))
    ∙ picked _ _ r.images (ap (λ (x : Outcome). eqb x.answer.refusal image_other) (sym o)))
