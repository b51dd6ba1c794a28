-- `Filled` says one image, and the same one of a list in any order.
use Prim.Native.Nat.{ℕ, suc, zero, ◌+◌, ◌-◌, ◌≤◌, ◌<◌}
use native.Mathlib.Omega.{arith}
use native.Mathlib.Decide.{dec_lt}
use mathlib.Core.Path.{◌≡◌, refl, sym, ap, ◌∙◌}
use mathlib.Core.Logic.{◌⊎◌, inl, inr}
use mathlib.Core.List.{List, Memᴰ}
use lib.ListN.{length, take, drop, get_or, take-append-drop}
use lib.Seq.{take-add, ext_get_or, get_or-drop}
use Rattle.octets.specs.Numbers.{at}
use Rattle.octets.specs.Parts.{part}
use Rattle.octets.proofs.Placing.{part-some}
use Rattle.image.specs.Line.{line_pixels, image_lines, image_octets, start, Image, Room}
use Rattle.about_image.specs.Placings.{Arrived, row, Number, of_held, of_packet, Filled}
use Rattle.about_image.specs.AnyOrder.{Same, OneImage}
use Rattle.about_image.proofs.Numbers.{smallest_of, one-smallest}
use Rattle.about_image.proofs.Filling.{Has, HasNone, has}

-- pixels by their rows
module _ (x y : List ℕ) (l : length x ≡ length y) (room : image_octets ≤ length x)
    (rows : (n : ℕ) → n < image_lines → part x (start n) line_pixels ≡ part y (start n) line_pixels) where
  cut : (n : ℕ) → n < image_lines → take line_pixels (drop (start n) x) ≡ take line_pixels (drop (start n) y)
  cut n h = part-some x (start n) line_pixels (omega arith) ∙ rows n h ∙ sym (part-some y (start n) line_pixels (omega arith))

  heads : (n : ℕ) → n ≤ image_lines → take (start n) x ≡ take (start n) y
  heads zero h = refl
  heads (suc n) h =
      let e : start (suc n) ≡ start n + line_pixels = omega arith in
      ap (λ (k : ℕ). take k x) e ∙ take-add (start n) line_pixels x
      ∙ rw (heads n (omega arith), cut n (omega arith)) (sym (ap (λ (k : ℕ). take k y) e ∙ take-add (start n) line_pixels y))

  pub by_rows : drop image_octets x ≡ drop image_octets y → x ≡ y
  by_rows d =
      sym (take-append-drop image_octets x) ∙ rw (heads image_lines (omega arith), d) refl ∙ take-append-drop image_octets y

-- line numbers one by one
by_numbers : (x y : List ℕ) → length x ≡ length y → ((n : ℕ) → n < image_lines → at x n ≡ at y n) → drop image_lines x ≡ drop image_lines y
    → x ≡ y
by_numbers x y l numbers d = ext_get_or 0 x y l (λ n h. by n (dec_lt n image_lines))
  where
    by : (n : ℕ) → Dec (n < image_lines) → get_or x n 0 ≡ get_or y n 0
    by n (yes h) = numbers n h
    by n (no h) =
        let e : n ≡ image_lines + (n - image_lines) = omega (arith, h) in
        ap (λ (k : ℕ). get_or x k 0) e ∙ sym (get_or-drop image_lines x (n - image_lines) 0)
        ∙ ap (λ (m : List ℕ). get_or m (n - image_lines) 0) d
        ∙ get_or-drop image_lines y (n - image_lines) 0 ∙ ap (λ (k : ℕ). get_or y k 0) (sym e)

-- the image of a list is that of the same packets in any order
module _ (held : Image) (s t : List Arrived) where
  carried : ((a : Arrived) → Memᴰ a s → Memᴰ a t) → (n m : ℕ) → Number held s n m → Number held t n m
  carried f n m (of_held p e) = of_held p e
  carried f n m (of_packet a q e k) = of_packet a (f a q) e k

pub refilled : (held i : Image) (s t : List Arrived) → Same s t → Filled held t i → Filled held s i
refilled held i s t same f =
    record {
      given = λ a m. f.given a ((same a).0 m);
      others = λ n h e. f.others n h (λ a m. e a ((same a).1 m));
      numbered = λ n h. smallest_of (carried held t s (λ a. (same a).1) n)
          (λ m p. (m, carried held s t (λ a. (same a).0) n m p, omega arith)) (f.numbered n h);
      pixels-length = f.pixels-length;
      lines-length = f.lines-length;
      pixels-beyond = f.pixels-beyond;
      lines-beyond = f.lines-beyond;
    }

module _ (held i j : Image) (s : List Arrived) (room : Room held) (f : Filled held s i) (g : Filled held s j) where
  row_of : (n : ℕ) → n < image_lines → Has s n ⊎ HasNone s n → row i n ≡ row j n
  row_of n h (inl a) = ap (row i) (sym a.2) ∙ f.given a.0 a.1 ∙ sym (g.given a.0 a.1) ∙ ap (row j) a.2
  row_of n h (inr a) = f.others n h a ∙ sym (g.others n h a)

  one-filled : i ≡ j
  one-filled =
      let pixels : i.pixels ≡ j.pixels = by_rows i.pixels j.pixels (f.pixels-length ∙ sym g.pixels-length)
      (omega (arith, f.pixels-length, room.pixels)) (λ n h. row_of n h (has s n)) (f.pixels-beyond ∙ sym g.pixels-beyond) in
      let lines : i.lines ≡ j.lines = by_numbers i.lines j.lines (f.lines-length ∙ sym g.lines-length)
      (λ n h. one-smallest (f.numbered n h) (g.numbered n h)) (f.lines-beyond ∙ sym g.lines-beyond) in
      rw (pixels, lines) refl

pub one-image : OneImage
one-image held i j s t room same f g = one-filled held i j s room f (refilled held j s t same g)
