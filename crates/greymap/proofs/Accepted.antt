-- The last ends of `read`.
use Rattle.std.specs.Prelude.{Ok, Err, Option, Some, None}
use Prim.Native.Nat.{ℕ}
use native.Mathlib.Omega.{arith}
use mathlib.Core.Path.{◌≡◌, sym, ap, ◌∙◌}
use mathlib.Core.List.{List}
use mathlib.Core.Bool.{Bool, true, false, not}
use lib.ListN.{length}
use lib.Dec.{eqb}
use borrow.Author.Tests.{eqb-true, not-false}
use Rattle.octets.specs.Parts.{part, put, written}
use Rattle.octets.specs.Same.{same}
use Rattle.octets.proofs.Choices.{picked, passed}
use Rattle.octets.proofs.Placing.{put_first}
use Rattle.octets.proofs.Runs.{length_part}
use Rattle.octets.proofs.Tests.{or_left}
use Rattle.answer.specs.declared.Reason.TheVariants.{LineList, UnnumberedLine}
use Rattle.image.specs.Line.{image_lines, image_octets, Image, image_of}
use Rattle.greymap.specs.Picture.{header, header_octets, greymap_octets, short}
use Rattle.greymap.specs.Reading.{observed, greymap_wrong, pixels_in, text_wrong, numbers_in, unnumbered_wrong, reading}
use Rattle.decimal.proofs.Several.{numbers-length}
use Rattle.greymap.specs.Asked.{listed, Picture}
use Rattle.greymap.proofs.Numbered.{list_of, not_listed}
use Rattle.greymap.proofs.Wrote.{room_of}

-- a right greymap's length
pub right-length : (grey : List ℕ) {said : Bool} → said ≡ greymap_wrong grey → said ≡ false → length grey ≡ greymap_octets
right-length grey e h =
    eqb-true (length grey) greymap_octets
    (not-false (eqb (length grey) greymap_octets)
    (or_left (not (eqb (length grey) greymap_octets)) (not (same (part grey 0 header_octets) header)) (sym e ∙ h)))

module _ (grey text : List ℕ) (before : Image) {few : Bool} (e₁ : few ≡ short before) (h₁ : few ≡ false) {other : Bool}
    (e₂ : other ≡ greymap_wrong grey) (h₂ : other ≡ false) {found : Option (List ℕ)} (e₃ : found ≡ listed text) where
  pub unlisted : found ≡ None → observed (Err LineList) before ≡ reading grey text before
  unfolding reading
  unlisted h =
      passed _ _ _ _ (sym e₁ ∙ h₁) (passed _ _ _ _ (sym e₂ ∙ h₂) (picked _ _ _ (not_listed text (sym h ∙ e₃))))

  module _ {list : List ℕ} (h₃ : found ≡ Some list) where
    its : (text_wrong text ≡ false) × (list ≡ numbers_in text)
    its = list_of text (sym h₃ ∙ e₃)

    pub picture : Picture list grey
    picture = record {
      lines = ap length its.1 ∙ numbers-length image_lines text;
      octets = right-length grey e₂ h₂;
    }

    module _ {wrong : Bool} (e₄ : wrong ≡ unnumbered_wrong list (pixels_in grey)) where
      says : wrong ≡ unnumbered_wrong (numbers_in text) (pixels_in grey)
      says = e₄ ∙ ap (λ (ns : List ℕ). unnumbered_wrong ns (pixels_in grey)) its.1

      pub unnumbered : wrong ≡ true → observed (Err UnnumberedLine) before ≡ reading grey text before
      unfolding reading
      unnumbered h =
          passed _ _ _ _ (sym e₁ ∙ h₁) (passed _ _ _ _ (sym e₂ ∙ h₂) (passed _ _ _ _ its.0 (picked _ _ _ (sym says ∙ h))))

      pub all_read : {pixels image' lines' : List ℕ} → wrong ≡ false → pixels ≡ part grey header_octets image_octets → image' ≡ put
          before.pixels 0 pixels
          → lines' ≡ written list before.lines → observed (Ok tt) (image_of image' lines') ≡ reading grey text before
      unfolding reading
      all_read {pixels} {image'} {lines'} h p i l =
          let room = room_of before (sym e₁ ∙ h₁) in
          let wide = room.pixels in
          let k : length grey ≡ greymap_octets = right-length grey e₂ h₂ in
          let m : length (pixels_in grey) ≡ image_octets = length_part grey header_octets image_octets (omega arith) in
          let image'' : image' ≡ written (pixels_in grey) before.pixels =
          i ∙ ap (put before.pixels 0) p ∙ put_first (pixels_in grey) before.pixels (omega arith) in
          let lines'' : lines' ≡ written (numbers_in text) before.lines = l ∙ ap (λ (ns : List ℕ). written ns before.lines) its.1 in
          passed _ _ _ _ (sym e₁ ∙ h₁) (passed _ _ _ _ (sym e₂ ∙ h₂) (passed _ _ _ _ its.0 (passed _ _ _ _ (sym says ∙ h)
          (ap (λ (x : List ℕ). observed (Ok tt) (image_of x lines')) image'' ∙ ap
          (λ (x : List ℕ). observed (Ok tt) (image_of (written (pixels_in grey) before.pixels) x)) lines''))))
