-- Laws of reading the line numbers, and of lines numbered 0.
use Rattle.std.specs.Prelude.{Some, None}
use Rattle.std.proofs.lemmas.Option.{none-some, same_Some}
use borrow.Author.Tests.{lt-ltb, le-ltb}
use Prim.Native.Nat.{ℕ, suc, ◌+◌, ◌-◌, ◌≤◌, ◌<◌}
use native.Mathlib.Omega.{arith}
use native.Mathlib.Numerals.{add-one}
use mathlib.Core.Path.{◌≡◌, refl, sym, ap, ◌∙◌}
use mathlib.Core.List.{List, [], ◌∷◌, ◌++◌, append_assoc, append-nil}
use mathlib.Core.Bool.{Bool, true, false, not, ◌||◌, ◌&&◌}
use lib.ListN.{length, take, drop, set, length-set, length-drop, drop_of_length-le}
use lib.Seq.{take-suc-set, take_all, drop-cons, drop-drop}
use lib.Dec.{eqb, ltb}
use Rattle.octets.specs.Numbers.{at}
use Rattle.octets.specs.Parts.{part}
use Rattle.octets.specs.Pick.{pick}
use Rattle.octets.specs.Same.{same}
use Rattle.octets.proofs.Choices.{picked, passed, not_picked}
use Rattle.octets.proofs.Placing.{part-some}
use Rattle.decimal.specs.Read.{read_at, numbers_of, numbers_wrong}
use Rattle.decimal.specs.Answers.{NumberRead}
use Rattle.decimal.proofs.Several.{read_at_lem, wrong-at, wrong-here, wrong-on, numbers_on, no_numbers, none_left}
use Rattle.image.specs.Line.{line_pixels, image_lines, image_octets, start}
use Rattle.greymap.specs.Picture.{header_octets, newline, blank}
use Rattle.greymap.specs.Reading.{text_wrong, numbers_in, pixels_in, unnumbered_wrong}
use Rattle.greymap.specs.Asked.{listed, Picture}

-- the first i numbers of a text were read into a list, and the others are sought from index from on
pub record Listing (text : List ℕ) (from i : ℕ) (list : List ℕ) : Type 0 where
  pub wrong : text_wrong text ≡ numbers_wrong (image_lines - i) newline (drop from text)
  pub numbers : numbers_in text ≡ take i list ++ numbers_of (image_lines - i) (drop from text)
  pub long : length list ≡ image_lines
  pub most : i ≤ image_lines

pub none-listed : (text list : List ℕ) → length list ≡ image_lines → Listing text 0 0 list
none-listed text list l = record { wrong = refl; numbers = refl; long = l; most = omega arith }

module _ (text list : List ℕ) (from i : ℕ) (g : Listing text from i list) (inside : i < image_lines) {r : NumberRead}
    (e : r ≡ read_at text from newline) where
  left_over : image_lines - i ≡ suc (image_lines - (i + 1))
  left_over = omega arith

  pub one-listed : {n next : ℕ} → r ≡ Some (n, next) → Listing text next (i + 1) (set list i n)
  one-listed {n} {next} h =
      let s = read_at_lem text from newline n next (sym e ∙ h) in
      let k : ℕ = image_lines - (i + 1) in
      let l = g.long in
      record {
        wrong = g.wrong ∙ ap (λ (j : ℕ). numbers_wrong j newline (drop from text)) left_over ∙ wrong-on k newline (drop from text) s;
        numbers = g.numbers
            ∙ ap (λ (j : ℕ). take i list ++ numbers_of j (drop from text)) left_over
            ∙ ap (λ (ns : List ℕ). take i list ++ ns) (numbers_on k newline (drop from text) s)
            ∙ sym (append_assoc (take i list) (n ∷ []) (numbers_of k (drop next text)))
            ∙ ap (λ (ns : List ℕ). ns ++ numbers_of k (drop next text))
            (sym (take-suc-set list i n (omega arith)) ∙ ap (λ (j : ℕ). take j (set list i n)) (sym (add-one i)));
        long = length-set list i n ∙ l;
        most = omega arith;
      }

  pub wrong-listed : r ≡ None → None ≡ listed text
  wrong-listed h =
      picked _ _ _
      (g.wrong ∙ ap (λ (j : ℕ). numbers_wrong j newline (drop from text)) left_over
      ∙ wrong-here (image_lines - (i + 1)) newline (drop from text) (wrong-at text from newline (sym e ∙ h)))

module _ (text list : List ℕ) (from i : ℕ) (g : Listing text from i list) (end : image_lines ≤ i) where
  none : image_lines - i ≡ 0
  none = let m = g.most in omega arith

  rest : text_wrong text ≡ ltb from (length text)
  rest = g.wrong ∙ ap (λ (j : ℕ). numbers_wrong j newline (drop from text)) none ∙ sym (none_left text from newline)

  pub more_left : from < length text → None ≡ listed text
  more_left h = picked _ _ _ (rest ∙ lt-ltb from (length text) h)

  pub all_listed : length text ≤ from → Some list ≡ listed text
  all_listed h =
      let l = g.long in
      let numbers : numbers_in text ≡ list =
      g.numbers
      ∙ ap (λ (j : ℕ). take i list ++ numbers_of j (drop from text)) none
      ∙ ap (λ (ns : List ℕ). take i list ++ ns) (no_numbers (drop from text))
      ∙ append-nil (take i list) ∙ take_all i list (omega arith) in
      passed _ _ _ _ (rest ∙ le-ltb from (length text) h) (ap Some (sym numbers))

-- what was listed
pub list_of : (text : List ℕ) {list : List ℕ} → Some list ≡ listed text → (text_wrong text ≡ false) × (list ≡ numbers_in text)
list_of text {list} h =
    let k = not_picked (text_wrong text) None (Some (numbers_in text)) (Some list) (sym h) (λ e. none-some list e) in
    (k.0, same_Some list (numbers_in text) (sym k.1))

pub not_listed : (text : List ℕ) → None ≡ listed text → text_wrong text ≡ true
unfolding pick
not_listed text h = by (text_wrong text) refl
  where
    by : (b : Bool) → text_wrong text ≡ b → text_wrong text ≡ true
    by true e = e
    by false e = absurd (none-some (numbers_in text) (rw e at h))

-- the lines before the n-th were found right
pub record Looking (list grey : List ℕ) (n : ℕ) : Type 0 where
  pub rest : unnumbered_wrong list (pixels_in grey) ≡ unnumbered_wrong (drop n list) (drop (start n) (pixels_in grey))
  pub most : n ≤ image_lines

module _ (list grey : List ℕ) (n : ℕ) (a : Picture list grey) (k : Looking list grey n) (inside : n < image_lines) {row : List ℕ}
    (e : row ≡ part grey (header_octets + start n) line_pixels) where
  row_in : take line_pixels (drop (start n) (pixels_in grey)) ≡ row
  row_in =
      let long = a.octets in
      let all : pixels_in grey ≡ drop header_octets grey =
      sym (part-some grey header_octets image_octets (omega arith)) ∙ take_all image_octets (drop header_octets grey)
      (rw length-drop (omega arith)) in
      ap (λ (p : List ℕ). take line_pixels (drop (start n) p)) all
      ∙ ap (take line_pixels) (drop-drop (start n) header_octets grey)
      ∙ part-some grey (header_octets + start n) line_pixels (omega arith) ∙ sym e

  -- whether the n-th line is wrong
  abbrev wrong_row : Bool
  wrong_row = eqb (at list n) 0 && not (same row blank)

  here : unnumbered_wrong list (pixels_in grey) ≡ (wrong_row || unnumbered_wrong (drop (n + 1) list) (drop (start (n + 1)) (pixels_in grey)))
  here =
      let l = a.lines in
      let p : List ℕ = drop (start n) (pixels_in grey) in
      let next : start n + line_pixels ≡ start (n + 1) = omega arith in
      k.rest ∙ ap (λ (ns : List ℕ). unnumbered_wrong ns p) (drop-cons list n 0 (omega arith))
      ∙ ap (λ (x : List ℕ). (eqb (at list n) 0 && not (same x blank)) || unnumbered_wrong (drop (suc n) list) (drop line_pixels p)) row_in
      ∙ ap (λ (x : List ℕ). wrong_row || unnumbered_wrong (drop (suc n) list) x) (drop-drop line_pixels (start n) (pixels_in grey))
      ∙ ap (λ (j : ℕ). wrong_row || unnumbered_wrong (drop (suc n) list) (drop j (pixels_in grey))) next
      ∙ ap (λ (j : ℕ). wrong_row || unnumbered_wrong (drop j list) (drop (start (n + 1)) (pixels_in grey))) (sym (add-one n))

  pub wrong-line : {said : Bool} → said ≡ same row blank → (eqb (at list n) 0 && not said) ≡ true → true ≡ unnumbered_wrong list
      (pixels_in grey)
  wrong-line {said} s h =
      let t : wrong_row ≡ true = ap (λ (b : Bool). eqb (at list n) 0 && not b) (sym s) ∙ h in
      sym (here ∙ ap (λ (b : Bool). b || unnumbered_wrong (drop (n + 1) list) (drop (start (n + 1)) (pixels_in grey))) t)

  pub right-line : {said : Bool} → said ≡ same row blank → (eqb (at list n) 0 && not said) ≡ false → Looking list grey (n + 1)
  right-line {said} s h =
      let t : wrong_row ≡ false = ap (λ (b : Bool). eqb (at list n) 0 && not b) (sym s) ∙ h in
      record {
        rest = here ∙ ap (λ (b : Bool). b || unnumbered_wrong (drop (n + 1) list) (drop (start (n + 1)) (pixels_in grey))) t;
        most = omega arith;
      }

pub all-looked : (list grey : List ℕ) (n : ℕ) → Picture list grey → Looking list grey n → image_lines ≤ n → false ≡ unnumbered_wrong list
    (pixels_in grey)
all-looked list grey n a k end =
    let l = a.lines in
    sym (k.rest ∙ ap (λ (ns : List ℕ). unnumbered_wrong ns (drop (start n) (pixels_in grey))) (drop_of_length-le list {i = n} (omega arith)))
