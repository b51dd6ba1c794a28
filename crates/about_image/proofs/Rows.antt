-- What placing a line does to the rows of an image.
use Prim.Native.Nat.{ℕ, ◌+◌, ◌-◌, ◌≤◌, ◌<◌}
use native.Mathlib.Omega.{arith}
use native.Mathlib.Decide.{dec_lt}
use mathlib.Core.Path.{◌≡◌, sym, ap, ◌∙◌}
use mathlib.Core.List.{List, ◌++◌, append_assoc}
use lib.ListN.{length, take, drop, length-append, length-drop}
use lib.Seq.{length-take-le, take_at, drop_at, take-append_seam, take-take, drop-drop, take-add}
use Rattle.octets.specs.Parts.{overlay}
use Rattle.octets.proofs.Placing.{part-some}
use Rattle.image.specs.Line.{line_pixels, image_lines, image_octets, start, Image, Line, placed, Fits}
use Rattle.about_image.specs.Placings.{row}

take-drop : (n j : ℕ) (l : List ℕ) → j ≤ length l → take n (drop j l) ≡ drop j (take (j + n) l)
take-drop n j l h = sym (ap (drop j) (take-add j n l) ∙ drop_at (take j l) (take n (drop j l)) j (length-take-le j l h))

-- octets laid over others: there, above and below
module _ (d : List ℕ) (at : ℕ) (s : List ℕ) (fits : at + length s ≤ length d) where
  front : length (take at d ++ s) ≡ at + length s
  front = simp (length-append, length-take-le at d (omega arith))

  parts : overlay d at s ≡ take at d ++ (s ++ drop (at + length s) d)
  parts = append_assoc (take at d) s (drop (at + length s) d)

  pub overlay-length : length (overlay d at s) ≡ length d
  overlay-length = simp (length-append, length-take-le at d (omega arith), length-drop) (omega arith)

  overlay-there : take (length s) (drop at (overlay d at s)) ≡ s
  overlay-there =
      ap (λ (l : List ℕ). take (length s) (drop at l)) parts
      ∙ ap (take (length s)) (drop_at (take at d) _ at (length-take-le at d (omega arith)))
      ∙ take-append_seam s (drop (at + length s) d)

  pub overlay-above : (j : ℕ) → at + length s ≤ j → drop j (overlay d at s) ≡ drop j d
  overlay-above j h =
      let m : ℕ = at + length s in
      let e : j ≡ m + (j - m) = omega arith in
      ap (λ (k : ℕ). drop k (overlay d at s)) e
      ∙ sym (drop-drop (j - m) m (overlay d at s))
      ∙ ap (drop (j - m)) (drop_at (take at d ++ s) _ m front)
      ∙ drop-drop (j - m) m d
      ∙ ap (λ (k : ℕ). drop k d) (sym e)

  overlay-below : (j n : ℕ) → j + n ≤ at → take n (drop j (overlay d at s)) ≡ take n (drop j d)
  overlay-below j n h =
      take-drop n j (overlay d at s) (omega (arith, overlay-length))
      ∙ ap (drop j)
      (sym (take-take (j + n) at (overlay d at s) h)
      ∙ ap (take (j + n)) (ap (take at) parts ∙ take_at (take at d) _ at (length-take-le at d (omega arith)))
      ∙ take-take (j + n) at d h)
      ∙ sym (take-drop n j d (omega arith))

module _ (i : Image) (l : Line) (f : Fits i l) where
  within : start l.line + length l.pixels ≤ length i.pixels
  within = let n = f.pixels in omega arith

  pub placed-length : length (placed i l).pixels ≡ length i.pixels
  placed-length = overlay-length i.pixels (start l.line) l.pixels within

  pub row-placed : row (placed i l) l.line ≡ l.pixels
  row-placed =
      let n = f.pixels in
      sym (part-some (placed i l).pixels (start l.line) line_pixels (omega (arith, placed-length)))
      ∙ ap (λ (k : ℕ). take k (drop (start l.line) (placed i l).pixels)) (sym n)
      ∙ overlay-there i.pixels (start l.line) l.pixels within

  -- another line's row stays
  pub row_other : (n : ℕ) → n < image_lines → (n ≡ l.line → ⊥) → row (placed i l) n ≡ row i n
  row_other n h e =
      sym (part-some (placed i l).pixels (start n) line_pixels (omega (arith, placed-length)))
      ∙ stays (dec_lt n l.line)
      ∙ part-some i.pixels (start n) line_pixels (omega arith)
    where
      stays : Dec (n < l.line) → take line_pixels (drop (start n) (placed i l).pixels) ≡ take line_pixels (drop (start n) i.pixels)
      stays (yes b) = overlay-below i.pixels (start l.line) l.pixels within (start n) line_pixels (omega arith)
      stays (no b) =
          let p = f.pixels in
          let g : l.line < n = omega (arith, b, e) in
          ap (take line_pixels) (overlay-above i.pixels (start l.line) l.pixels within (start n) (omega arith))

  pub beyond-placed : drop image_octets (placed i l).pixels ≡ drop image_octets i.pixels
  beyond-placed =
      let p = f.pixels in
      overlay-above i.pixels (start l.line) l.pixels within image_octets (omega arith)
