-- What is written reads back, and what is accepted is what the writer gives for it.
use Rattle.std.specs.Prelude.{Ok}
use Prim.Native.Nat.{ℕ, zero, suc, ◌+◌, ◌*◌, ◌≤◌}
use native.Mathlib.Omega.{arith}
use mathlib.Core.Path.{◌≡◌, refl, sym, ap, subst, ◌∙◌}
use mathlib.Core.List.{List, [], ◌∷◌, ◌++◌}
use mathlib.Core.Bool.{Bool, true, false, not, ◌||◌, ◌&&◌}
use lib.ListN.{length, take, drop, length-append, length-drop, take-append-drop}
use lib.Seq.{length-take-le, take_all, take_at, take-append_seam, drop-append_seam, drop-append-le, take-append-le, drop_at}
use lib.Dec.{eqb, ltb}
use borrow.Author.Tests.{le-ltb, eq-eqb, not-false}
use Rattle.octets.specs.Numbers.{at}
use Rattle.octets.specs.Pick.{pick}
use Rattle.octets.specs.Parts.{part, written}
use Rattle.octets.specs.Same.{same}
use Rattle.octets.proofs.Choices.{not_picked, passed}
use Rattle.octets.proofs.Comparing.{same_is_equal}
use Rattle.octets.proofs.Placing.{part-some}
use Rattle.octets.proofs.Runs.{length_part}
use Rattle.octets.proofs.Tests.{or_left, or_right}
use Rattle.answer.proofs.Told.{refuse_or_accept}
use Rattle.decimal.specs.Text.{each}
use Rattle.decimal.specs.Read.{largest, numbers_wrong}
use Rattle.decimal.specs.Read.{numbers_of as decimalNumbers}
use Rattle.decimal.proofs.Back.{numbers-read-back, numbers_write_back}
use Rattle.decimal.proofs.Several.{numbers-length}
use Rattle.image.specs.Line.{line_pixels, image_lines, image_octets, Image, image_of}
use Rattle.greymap.specs.Outcome.{Outcome, accepted, refused}
use Rattle.greymap.specs.Picture.{header, header_octets, greymap_octets, newline, blank, line_shown, lines_shown, numbers_of, shown}
use Rattle.greymap.specs.Picture.{greymap_of, text_of, short}
use Rattle.greymap.specs.Writing as writing
use Rattle.greymap.specs.Reading as reading
use Rattle.greymap.specs.Reading.{greymap_wrong, pixels_in, text_wrong, numbers_in, unnumbered_wrong}
use Rattle.greymap.specs.Back.{CallsReadBack, CallsWriteBack}
use Rattle.greymap.specs.declared.Lengths.{Lengths}
use Rattle.greymap.proofs.Shown.{line-length, lines-length}
use Rattle.greymap.proofs.Wrote.{room_of, greymap-length}
use Rattle.greymap.proofs.Accepted.{right-length}
use Rattle.greymap.proofs.Told.{one_written, one-read}

-- what is shown of a line numbered 0 is blank
shown-right : (n : ℕ) (row : List ℕ) → (eqb n 0 && not (same (line_shown n row) blank)) ≡ false
unfolding line_shown pick
shown-right n row = by (eqb n 0)
  where
    by : (b : Bool) → (b && not (same (pick b blank row) blank)) ≡ false
    by true = ap not ((same_is_equal blank blank).1 refl)
    by false = refl

shown-lines-right : (ns pixels : List ℕ) → line_pixels * length ns ≤ length pixels → unnumbered_wrong ns (lines_shown ns pixels) ≡ false
shown-lines-right [] pixels h = refl
shown-lines-right (n ∷ ns) pixels h =
    let row : List ℕ = line_shown n (take line_pixels pixels) in
    let rest : List ℕ = lines_shown ns (drop line_pixels pixels) in
    let k : length row ≡ line_pixels = line-length n (take line_pixels pixels) (length-take-le line_pixels pixels (omega arith)) in
    let l : line_pixels * length ns ≤ length (drop line_pixels pixels) = rw length-drop (omega arith) in
    ap (λ (r : List ℕ). (eqb n 0 && not (same r blank)) || unnumbered_wrong ns (drop line_pixels (row ++ rest)))
    (take_at row rest line_pixels k)
    ∙ ap (λ (r : List ℕ). (eqb n 0 && not (same row blank)) || unnumbered_wrong ns r) (drop_at row rest line_pixels k)
    ∙ ap (λ (b : Bool). b || unnumbered_wrong ns rest) (shown-right n (take line_pixels pixels))
    ∙ shown-lines-right ns (drop line_pixels pixels) l

-- a line that is right is shown as it is
right-shown : (n : ℕ) (row : List ℕ) → (eqb n 0 && not (same row blank)) ≡ false → line_shown n row ≡ row
unfolding line_shown pick
right-shown n row h = by (eqb n 0) h
  where
    by : (b : Bool) → (b && not (same row blank)) ≡ false → pick b blank row ≡ row
    by true k = sym ((same_is_equal row blank).0 (not-false (same row blank) k))
    by false k = refl

right-lines-shown : (ns pixels behind : List ℕ) → length pixels ≡ line_pixels * length ns → unnumbered_wrong ns pixels ≡ false → lines_shown ns
    (pixels ++ behind) ≡ pixels
right-lines-shown [] [] behind l h = refl
right-lines-shown [] (p ∷ ps) behind l h = absurd (omega arith)
right-lines-shown (n ∷ ns) pixels behind l h =
    let row : List ℕ = take line_pixels pixels in
    let rest : List ℕ = drop line_pixels pixels in
    let first : Bool = eqb n 0 && not (same row blank) in
    let fits : line_pixels ≤ length pixels = omega arith in
    let k : length rest ≡ line_pixels * length ns = length-drop line_pixels pixels ∙ omega arith in
    ap (λ (r : List ℕ). line_shown n r ++ lines_shown ns (drop line_pixels (pixels ++ behind))) (take-append-le line_pixels pixels behind fits)
    ∙ ap (λ (r : List ℕ). line_shown n row ++ lines_shown ns r) (drop-append-le line_pixels pixels behind fits)
    ∙ ap (λ (r : List ℕ). r ++ lines_shown ns (rest ++ behind)) (right-shown n row (or_left first (unnumbered_wrong ns rest) h))
    ∙ ap (λ (r : List ℕ). row ++ r) (right-lines-shown ns rest behind k (or_right first (unnumbered_wrong ns rest) h))
    ∙ take-append-drop line_pixels pixels

take-small : (n : ℕ) (l : List ℕ) → ((i : ℕ) → at l i ≤ largest) → (i : ℕ) → at (take n l) i ≤ largest
take-small zero l h i = omega arith
take-small (suc n) [] h i = omega arith
take-small (suc n) (x ∷ l) h zero = h 0
take-small (suc n) (x ∷ l) h (suc i) = take-small n l (λ j. h (suc j)) i

-- of a whole image: its greymap and its text are right, and hold its shown pixels and its numbers
module _ (image : Image) (whole : short image ≡ false) where
  many : length (numbers_of image.lines) ≡ image_lines
  many = length-take-le image_lines image.lines (room_of image whole).lines

  shown-length : length (shown image) ≡ image_octets
  shown-length =
      let r = room_of image whole in
      lines-length (numbers_of image.lines) image.pixels (omega (arith, many, r.pixels)) ∙ omega (arith, many)

  right-grey : greymap_wrong (greymap_of image) ≡ false
  unfolding greymap_of
  right-grey =
      let g : List ℕ = header ++ shown image in
      let l : length g ≡ greymap_octets = greymap-length image whole in
      let h : part g 0 header_octets ≡ header = sym (part-some g 0 header_octets (omega arith)) ∙ take-append_seam header (shown image) in
      ap (λ (b : Bool). not b || not (same (part g 0 header_octets) header)) (eq-eqb (length g) greymap_octets l)
      ∙ ap not ((same_is_equal (part g 0 header_octets) header).1 h)

  its_pixels : pixels_in (greymap_of image) ≡ shown image
  unfolding greymap_of
  its_pixels =
      let g : List ℕ = header ++ shown image in
      let l : length g ≡ greymap_octets = greymap-length image whole in
      let fits : length (shown image) ≤ image_octets = omega (arith, shown-length) in
      sym (part-some g header_octets image_octets (omega arith)) ∙ ap (take image_octets) (drop-append_seam header (shown image))
      ∙ take_all image_octets (shown image) fits

  right-pixels : unnumbered_wrong (numbers_of image.lines) (shown image) ≡ false
  right-pixels =
      let r = room_of image whole in
      shown-lines-right (numbers_of image.lines) image.pixels (omega (arith, many, r.pixels))

  module _ (small : (i : ℕ) → at image.lines i ≤ largest) where
    right-text : (text_wrong (text_of image.lines) ≡ false) × (numbers_in (text_of image.lines) ≡ numbers_of image.lines)
    unfolding text_of
    right-text =
        let ns : List ℕ = numbers_of image.lines in
        let b = numbers-read-back ns newline (take-small image_lines image.lines small) refl in (
          subst (λ (k : ℕ). numbers_wrong k newline (each newline ns []) ≡ false) many b.0,
          subst (λ (k : ℕ). decimalNumbers k (each newline ns []) ≡ ns) many b.1,
        )

    -- so they are read
    pub reads : (before : Image) → short before ≡ false
        → accepted tt (image_of (written (shown image) before.pixels) (written (numbers_of image.lines) before.lines))
        ≡ reading.reading (greymap_of image) (text_of image.lines) before
    unfolding reading.reading
    reads before room =
        let t = right-text in
        let ns : List ℕ = numbers_of image.lines in
        let u : unnumbered_wrong (numbers_in (text_of image.lines)) (pixels_in (greymap_of image)) ≡ false =
        ap (λ (l : List ℕ). unnumbered_wrong l (pixels_in (greymap_of image))) t.1 ∙ ap (unnumbered_wrong ns) its_pixels ∙ right-pixels in
        passed _ _ _ _ room (passed _ _ _ _ right-grey (passed _ _ _ _ t.0 (passed _ _ _ _ u (rw (its_pixels, t.1) refl))))

-- a writer that answered lengths left both
module _ (image : Image) (out : writing.Outputs) (l : Lengths) (out' : writing.Outputs)
    (w : writing.Writes image out (Ok l) out') where
  record Left : Type 0 where
    whole : short image ≡ false
    grey : take l.grey out'.grey ≡ greymap_of image
    text : take l.text out'.text ≡ text_of image.lines

  left : Left
  unfolding writing.writing
  left =
      let no : (n : ℕ) → refused (writing.lengths 0 0) n out ≡ writing.observed (Ok l) out' → ⊥ = λ n e. refuse_or_accept
      (ap (λ (o : Outcome Lengths writing.Outputs). o.answer) e) in
      let a = not_picked (short image) _ _ _ (sym w) (no _) in
      let b = not_picked _ _ _ _ a.1 (no _) in
      let g : List ℕ = greymap_of image in
      let t : List ℕ = text_of image.lines in
      let e : accepted (writing.lengths (length g) (length t)) (writing.outputs (written g out.grey) (written t out.text)) ≡
      writing.observed (Ok l) out' = b.1 in
      let one : writing.lengths (length g) (length t) ≡ l = ap (λ (o : Outcome Lengths writing.Outputs). o.answer.fields) e in
      let both : writing.outputs (written g out.grey) (written t out.text) ≡ out' = ap
      (λ (o : Outcome Lengths writing.Outputs). o.lent) e in
      record {
        whole = a.0;
        grey = ap (λ (k : Lengths). take k.grey out'.grey) (sym one) ∙ ap (λ (o : writing.Outputs). take (length g) o.grey)
            (sym both) ∙ take-append_seam g _;
        text = ap (λ (k : Lengths). take k.text out'.text) (sym one) ∙ ap (λ (o : writing.Outputs). take (length t) o.text)
            (sym both) ∙ take-append_seam t _;
      }

pub calls-read-back : CallsReadBack
calls-read-back image out l out' small w before answer after room r =
    let k = left image out l out' w in
    let e = one-read {y = (Ok tt)} (r
    ∙ ap (λ (g : List ℕ). reading.reading g (take l.text out'.text) before) k.grey
    ∙ ap (λ (t : List ℕ). reading.reading (greymap_of image) t before) k.text
    ∙ sym (reads image k.whole small before room)) in
    (ap (λ x. x.0) e, ap (λ x. x.1) e)

-- what was accepted is right
module _ (grey text : List ℕ) (before after : Image) (r : reading.Reads grey text before (Ok tt) after) where
  record Right : Type 0 where
    greymap : greymap_wrong grey ≡ false
    list : text_wrong text ≡ false
    lines : unnumbered_wrong (numbers_in text) (pixels_in grey) ≡ false
    leaves : after ≡ image_of (written (pixels_in grey) before.pixels) (written (numbers_in text) before.lines)

  right : Right
  unfolding reading.reading
  right =
      let no : (n : ℕ) → refused tt n before ≡ reading.observed (Ok tt) after → ⊥ = λ n e. refuse_or_accept
      (ap (λ (o : Outcome (Unit {0}) Image). o.answer) e) in
      let a = not_picked _ _ _ _ (sym r) (no _) in
      let b = not_picked _ _ _ _ a.1 (no _) in
      let c = not_picked _ _ _ _ b.1 (no _) in
      let d = not_picked _ _ _ _ c.1 (no _) in
      record { greymap = b.0; list = c.0; lines = d.0; leaves = sym (ap (λ (o : Outcome (Unit {0}) Image). o.lent) d.1) }

  long : length grey ≡ greymap_octets
  long = right-length grey refl right.greymap

  pixels-long : length (pixels_in grey) ≡ image_octets
  pixels-long = length_part grey header_octets image_octets (omega (arith, long))

  numbers-long : length (numbers_in text) ≡ image_lines
  numbers-long = numbers-length image_lines text

  -- the image that was left
  its_numbers : numbers_of after.lines ≡ numbers_in text
  its_numbers = ap (λ (i : Image). numbers_of i.lines) right.leaves ∙ take_at (numbers_in text) _ image_lines numbers-long

  its_shown : shown after ≡ pixels_in grey
  its_shown =
      ap (λ (ns : List ℕ). lines_shown ns after.pixels) its_numbers
      ∙ ap (λ (i : Image). lines_shown (numbers_in text) i.pixels) right.leaves
      ∙ right-lines-shown (numbers_in text) (pixels_in grey) _ (omega (arith, pixels-long, numbers-long)) right.lines

  not_short : short after ≡ false
  not_short =
      let p : length after.pixels ≡ length (pixels_in grey) + length (drop (length (pixels_in grey)) before.pixels) =
      ap (λ (i : Image). length i.pixels) right.leaves ∙ length-append (pixels_in grey) _ in
      let n : length after.lines ≡ length (numbers_in text) + length (drop (length (numbers_in text)) before.lines) =
      ap (λ (i : Image). length i.lines) right.leaves ∙ length-append (numbers_in text) _ in
      ap (λ (b : Bool). b || ltb (length after.lines) image_lines)
      (le-ltb (length after.pixels) image_octets (omega (arith, pixels-long)))
      ∙ le-ltb (length after.lines) image_lines (omega (arith, numbers-long))

  its_grey : greymap_of after ≡ grey
  unfolding greymap_of
  its_grey =
      let known : part grey 0 header_octets ≡ header =
      (same_is_equal (part grey 0 header_octets) header).0
      (not-false (same (part grey 0 header_octets) header)
      (or_right (not (eqb (length grey) greymap_octets)) (not (same (part grey 0 header_octets) header)) right.greymap)) in
      let first : header ≡ take header_octets grey = sym known ∙ sym (part-some grey 0 header_octets (omega (arith, long))) in
      let rest : pixels_in grey ≡ drop header_octets grey =
      sym (part-some grey header_octets image_octets (omega (arith, long))) ∙ take_all image_octets (drop header_octets grey)
      (rw length-drop (omega (arith, long))) in
      ap (λ (p : List ℕ). header ++ p) (its_shown ∙ rest) ∙ ap (λ (h : List ℕ). h ++ drop header_octets grey) first
      ∙ take-append-drop header_octets grey

  its_text : text_of after.lines ≡ text
  unfolding text_of
  its_text = ap (λ (ns : List ℕ). each newline ns []) its_numbers ∙ numbers_write_back image_lines newline text right.list

-- so the writer gives it
given : (image : Image) (out : writing.Outputs) → short image ≡ false → length (greymap_of image) ≤ length out.grey → length
    (text_of image.lines) ≤ length out.text
    → accepted (writing.lengths (length (greymap_of image)) (length (text_of image.lines)))
    (writing.outputs (written (greymap_of image) out.grey) (written (text_of image.lines) out.text))
    ≡ writing.writing image out
unfolding writing.writing writing.roomless
given image out whole wide far =
    let g : List ℕ = greymap_of image in
    let t : List ℕ = text_of image.lines in
    passed _ _ _ _ whole
    (passed _ _ _ _ (ap (λ (b : Bool). b || ltb (length out.text) (length t)) (le-ltb (length out.grey) (length g) wide) ∙ le-ltb
    (length out.text) (length t) far) refl)

pub calls_write_back : CallsWriteBack
calls_write_back grey text before after r out answer out' wide far w =
    let g = its_grey grey text before after r in
    let t = its_text grey text before after r in
    let e = one_written {y = Ok (writing.lengths (length (greymap_of after)) (length (text_of after.lines)))}
    (w ∙ sym (given after out (not_short grey text before after r) (rw g wide) (rw t far))) in
    let o : out' ≡ writing.outputs (written (greymap_of after) out.grey) (written (text_of after.lines) out.text) = ap
    (λ x. x.1) e in
    record {
      answers = ap (λ x. x.0) e ∙ rw (g, t) refl;
      grey = ap (λ (x : writing.Outputs). take (length grey) x.grey) o ∙ rw g (take-append_seam grey _);
      text = ap (λ (x : writing.Outputs). take (length text) x.text) o ∙ rw t (take-append_seam text _);
    }
