-- Laws of lines as they are shown, one behind another.
use Prim.Native.Nat.{ℕ, suc, ◌+◌, ◌*◌, ◌≤◌, ◌<◌}
use native.Mathlib.Omega.{arith}
use native.Mathlib.Numerals.{add-one}
use mathlib.Core.Path.{◌≡◌, refl, sym, ap, ◌∙◌}
use mathlib.Core.List.{List, [], ◌∷◌, ◌++◌, append_assoc, append-nil}
use lib.ListN.{length, take, drop, length-append, length-drop, length-replicate}
use lib.Seq.{take-suc, drop-drop, length-take-le}
use Rattle.octets.specs.Numbers.{at}
use Rattle.octets.specs.Parts.{part, put, written}
use Rattle.octets.proofs.Choices.{picks}
use Rattle.octets.proofs.Placing.{part-some, put_first, after}
use Rattle.image.specs.Line.{line_pixels, image_lines, start, image_of, Room}
use Rattle.greymap.specs.Picture.{header, header_octets, greymap_octets, blank, line_shown, lines_shown, greymap_of}

-- how long they are
pub blank-length : length blank ≡ line_pixels
unfolding blank
blank-length = length-replicate {A = ℕ} line_pixels 0

pub line-length : (number : ℕ) (pixels : List ℕ) → length pixels ≡ line_pixels → length (line_shown number pixels) ≡ line_pixels
unfolding line_shown
line-length number pixels h = picks (λ (l : List ℕ). length l ≡ line_pixels) _ blank pixels (λ t. blank-length) (λ f. h)

row-length : (k : ℕ) (pixels : List ℕ) → line_pixels * suc k ≤ length pixels → length (take line_pixels pixels) ≡ line_pixels
row-length k pixels h = length-take-le line_pixels pixels (omega arith)

pub lines-length : (numbers pixels : List ℕ) → line_pixels * length numbers ≤ length pixels → length
    (lines_shown numbers pixels) ≡ line_pixels * length numbers
lines-length [] pixels h = refl
lines-length (n ∷ ns) pixels h =
    let rest : line_pixels * length ns ≤ length (drop line_pixels pixels) = rw length-drop (omega arith) in
    length-append (line_shown n (take line_pixels pixels)) (lines_shown ns (drop line_pixels pixels))
    ∙ omega (arith, line-length n (take line_pixels pixels) (row-length (length ns) pixels h), lines-length ns (drop line_pixels pixels) rest)

-- one line more
last_line : (numbers : List ℕ) (n : ℕ) (pixels : List ℕ)
    → lines_shown (numbers ++ (n ∷ [])) pixels ≡ lines_shown numbers pixels ++ line_shown n
    (take line_pixels (drop (line_pixels * length numbers) pixels))
last_line [] n pixels = append-nil (line_shown n (take line_pixels pixels))
last_line (m ∷ ns) n pixels =
    let first : List ℕ = line_shown m (take line_pixels pixels) in
    let e : line_pixels + line_pixels * length ns ≡ line_pixels * suc (length ns) = omega arith in
    ap (λ (l : List ℕ). first ++ l) (last_line ns n (drop line_pixels pixels))
    ∙ ap (λ (r : List ℕ). first ++ (lines_shown ns (drop line_pixels pixels) ++ line_shown n (take line_pixels r)))
    (drop-drop (line_pixels * length ns) line_pixels pixels)
    ∙ ap (λ (k : ℕ). first ++ (lines_shown ns (drop line_pixels pixels) ++ line_shown n (take line_pixels (drop k pixels)))) e
    ∙ sym (append_assoc first (lines_shown ns (drop line_pixels pixels))
    (line_shown n (take line_pixels (drop (line_pixels * suc (length ns)) pixels))))

pub one-line-more : (lines pixels : List ℕ) (n : ℕ) → n < length lines
    → lines_shown (take (n + 1) lines) pixels ≡ lines_shown (take n lines) pixels ++ line_shown (at lines n)
    (take line_pixels (drop (start n) pixels))
one-line-more lines pixels n h =
    ap (λ (ns : List ℕ). lines_shown ns pixels) (ap (λ (k : ℕ). take k lines) (add-one n) ∙ take-suc lines n 0 h)
    ∙ last_line (take n lines) (at lines n) pixels
    ∙ ap (λ (k : ℕ). lines_shown (take n lines) pixels ++ line_shown (at lines n) (take line_pixels (drop (start k) pixels)))
    (length-take-le n lines (omega arith))

-- the header and the first n lines were drawn, where grey₀ has the header
pub record Drawing (image lines grey₀ : List ℕ) (n : ℕ) (grey : List ℕ) : Type 0 where
  pub drawn : (out : List ℕ) → grey₀ ≡ written header out → greymap_octets ≤ length out → grey ≡ written
      (header ++ lines_shown (take n lines) image) out
  pub most : n ≤ image_lines
  pub same : length grey ≡ length grey₀

pub one_drawn : (image lines grey₀ grey row grey' : List ℕ) (n : ℕ) → Room (image_of image lines) → n < image_lines
    → Drawing image lines grey₀ n grey
    → row ≡ part image (start n) line_pixels → grey' ≡ put grey (header_octets + start n) (line_shown (at lines n) row)
    → length grey' ≡ length grey
    → Drawing image lines grey₀ (n + 1) grey'
one_drawn image lines grey₀ grey row grey' n room inside d e p l =
    let wide = room.pixels in
    let many = room.lines in
    let here : take line_pixels (drop (start n) image) ≡ row = part-some image (start n) line_pixels (omega arith) ∙ sym e in
    let before : List ℕ = lines_shown (take n lines) image in
    let line : List ℕ = line_shown (at lines n) row in
    let k : length (take n lines) ≡ n = length-take-le n lines (omega arith) in
    let long : length before ≡ start n = lines-length (take n lines) image (omega arith) ∙ ap start k in
    let row-long : length row ≡ line_pixels = ap length (sym here) ∙ length-take-le line_pixels (drop (start n) image)
    (rw length-drop (omega arith)) in
    let line-long : length line ≡ line_pixels = line-length (at lines n) row row-long in
    let whole : length (header ++ before) ≡ header_octets + start n = length-append header before ∙ ap (λ (m : ℕ). header_octets + m) long in
    record {
      drawn = λ out h fits.
          after (header ++ before) line out (header_octets + start n) (d.drawn out h fits) p (sym whole) (omega (arith, whole, line-long))
          ∙ ap (λ (s : List ℕ). written s out)
          (append_assoc header before line
          ∙ ap (λ (s : List ℕ). header ++ s)
          (ap (λ (r : List ℕ). before ++ line_shown (at lines n) r) (sym here) ∙ sym (one-line-more lines image n (omega arith))));
      most = omega arith;
      same = l ∙ d.same;
    }

pub all_drawn : (image lines grey₀ grey out : List ℕ) (n : ℕ) → image_lines ≤ n → Drawing image lines grey₀ n grey → grey₀ ≡ put out 0 header
    → greymap_octets ≤ length out → grey ≡ written (greymap_of (image_of image lines)) out
unfolding greymap_of
all_drawn image lines grey₀ grey out n end d e room =
    let all : n ≡ image_lines = omega (arith, d.most) in
    d.drawn out (e ∙ put_first header out (omega arith)) room
    ∙ ap (λ (k : ℕ). written (header ++ lines_shown (take k lines) image) out) all
