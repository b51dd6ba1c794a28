-- Three packets in any order, and two in conflict.
use Prim.Native.Nat.{ℕ, ◌≤◌, ◌<◌}
use native.Mathlib.Omega.{arith}
use mathlib.Core.Path.{◌≡◌, refl, sym, ap, subst⁻¹, ◌∙◌}
use mathlib.Core.Bool.{false}
use mathlib.Core.Logic.{◌⊎◌, inl, inr}
use mathlib.Core.List.Memᴰ
use mathlib.Core.List.{List, [], ◌∷◌, Memᴰ}
use lib.Dec.{ltb}
use borrow.Author.Tests.{le-ltb, eq-eqb}
use Rattle.octets.specs.Numbers.{at}
use Rattle.octets.proofs.Choices.{passed}
use Rattle.answer.specs.Told.{accept}
use Rattle.report.specs.Limits.{last_line}
use Rattle.report.specs.Table.{image_line}
use Rattle.report.specs.Report.{pixels_of}
use Rattle.report.specs.Write.{report_wrong}
use Rattle.report.specs.Back.{ReadBack}
use Rattle.report.proofs.Accepted.{accepted}
use Rattle.report.proofs.Back.{reads-back}
use Rattle.image.specs.Line.{image_lines, Image, held_otherwise}
use Rattle.image.specs.Placing.{Outcome, placing}
use Rattle.image.specs.Back.{line_report}
use Rattle.about_image.specs.Placings.{Arrived, line, row, Accepted, Alike, Agreeing, Filled}
use Rattle.about_image.specs.Placings.{Number, of_held, of_packet, Smallest, smallest, none}
use Rattle.about_image.specs.AnyOrder.{Same}
use Rattle.about_image.specs.Witness.{all, fields, line_of, three, Empty, Three, ThreeLines, TwoSets}
use Rattle.about_image.proofs.Numbers.{one-smallest}
use Rattle.about_image.proofs.Packets.{LinePacket, own_line, placed_or_held}
use Rattle.about_image.proofs.Filling.{fills}
use Rattle.about_image.proofs.One.{refilled}
use Rattle.about_image.proofs.AnyOrder.{reordered, agree_in_order}
use Rattle.report.specs.Report.{line_of as reportLine}
use Rattle.report.specs.declared.Line.{Line as ReportLine}

zero_or_one : ◌≡◌ {A = ℕ} 0 1 → ⊥
zero_or_one e = omega arith

abbrev first_of : List (List ℕ) → List ℕ
first_of [] = []
first_of (x ∷ xs) = x

right : (n pixel : ℕ) → ltb last_line n ≡ false → report_wrong (line_report fields (record { image = 1; line = n })) (all pixel ∷ []) ≡ false
unfolding image_line
right n pixel h = simp h

-- what the writer gives for a line is a line packet
module _ (n pixel arrival : ℕ) (below : n < image_lines) where
  abbrev own : ReportLine
  own = record { image = 1; line = n }

  back : ReadBack (line_report fields own) (all pixel ∷ [])
  back = reads-back (line_report fields own) (all pixel ∷ []) (right n pixel (le-ltb last_line n (omega arith)))

  its : own ≡ reportLine (line_of n pixel arrival).packet
  its =
      own_line fields (line_of n pixel arrival).packet own
      (sym (accepted (line_of n pixel arrival).packet (line_report fields own) back.fields).content)

  at-line : line (line_of n pixel arrival) ≡ n
  at-line = ap (λ (k : ReportLine). k.line) (sym its)

  with_pixels : pixels_of (line_of n pixel arrival).packet ≡ all pixel
  with_pixels = ap first_of back.parts

  line-packet : 0 < arrival → LinePacket 1 (line_of n pixel arrival)
  line-packet numbered =
      record {
        packet = fields;
        read = back.fields ∙ ap (λ (k : ReportLine). accept (line_report fields k)) its;
        image = ap (λ (k : ReportLine). k.image) (sym its);
        numbered = numbered;
      }

  module _ (held : Image) (empty : Empty held) (numbered : 0 < arrival) where
    free : held_otherwise held (line (line_of n pixel arrival)) (pixels_of (line_of n pixel arrival).packet) ≡ false
    unfolding held_otherwise
    free = simp (eq-eqb (at held.lines (line (line_of n pixel arrival))) 0 (ap (at held.lines) at-line ∙ empty.none n below))

    accepts : Accepted 1 held (line_of n pixel arrival)
    unfolding placing
    accepts =
        ap (λ (o : Outcome). o.answer.accepted)
        (placed_or_held 1 held (line_of n pixel arrival) (line-packet numbered) empty.room ∙ sym (passed _ _ _ _ free refl))

module _ (held : Image) (empty : Empty held) where
  of_three : (P : Arrived → Type 0) → P (line_of 0 1 9) → P (line_of 1 2 4) → P (line_of 0 1 3) → (a : Arrived) → Memᴰ a three → P a
  of_three P x y z a m = by (Memᴰ.cases_cons m)
    where
      last : (a ≡ line_of 1 2 4) ⊎ Memᴰ a (line_of 0 1 3 ∷ []) → P a
      last (inl e) = subst⁻¹ P e y
      last (inr k) = subst⁻¹ P (Memᴰ.eq_of_singleton k) z

      by : (a ≡ line_of 0 1 9) ⊎ Memᴰ a (line_of 1 2 4 ∷ line_of 0 1 3 ∷ []) → P a
      by (inl e) = subst⁻¹ P e x
      by (inr k) = last (Memᴰ.cases_cons k)

  first_below : 0 < image_lines
  first_below = omega arith

  second_below : 1 < image_lines
  second_below = omega arith

  -- the line, the pixels and the number of each
  abbrev Said : Arrived → Type 0
  Said a = ((line a ≡ 0) × (pixels_of a.packet ≡ all 1) × (3 ≤ a.arrival)) ⊎
      ((line a ≡ 1) × (pixels_of a.packet ≡ all 2) × (a.arrival ≡ 4))

  said : (a : Arrived) → Memᴰ a three → Said a
  said =
      of_three Said
      (inl (at-line 0 1 9 first_below, with_pixels 0 1 9 first_below, omega arith))
      (inr (at-line 1 2 4 second_below, with_pixels 1 2 4 second_below, refl))
      (inl (at-line 0 1 3 first_below, with_pixels 0 1 3 first_below, omega arith))

  agreeing : Agreeing 1 held three
  agreeing =
      record {
        accepted = of_three (Accepted 1 held) (accepts 0 1 9 first_below held empty (omega arith))
            (accepts 1 2 4 second_below held empty (omega arith)) (accepts 0 1 3 first_below held empty (omega arith));
        alike = λ a b m n. alike a b (said a m) (said b n);
      }
    where
      alike : (a b : Arrived) → Said a → Said b → Alike a b
      alike a b (inl p) (inl q) e = p.1 ∙ sym q.1
      alike a b (inl p) (inr q) e = absurd (zero_or_one (sym p.0 ∙ e ∙ q.0))
      alike a b (inr p) (inl q) e = absurd (zero_or_one (sym q.0 ∙ sym e ∙ p.0))
      alike a b (inr p) (inr q) e = p.1 ∙ sym q.1

  -- the numbers of the two lines
  abbrev Among : ℕ → ℕ → Type 0
  Among n m = ((n ≡ 0) × (3 ≤ m)) ⊎ ((n ≡ 1) × (m ≡ 4))

  numbers : (n m : ℕ) → n < image_lines → Number held three n m → Among n m
  numbers n m h (of_held p e) = absurd (never (empty.none n h))
    where
      never : at held.lines n ≡ 0 → ⊥
      never z = omega arith
  numbers n m h (of_packet a q e k) = by (said a q)
    where
      by : Said a → Among n m
      by (inl s) = inl (sym e ∙ s.0, omega (arith, s.2, k))
      by (inr s) = inr (sym e ∙ s.0, sym k ∙ s.2)

  numbered : (after : Image) → Filled held three after → (n k : ℕ) → n < image_lines → Smallest (Number held three n) k → at
      after.lines n ≡ k
  numbered after f n k h s = one-smallest (f.numbered n h) s

  filled : (after : Image) → Filled held three after → Three held after
  filled after f =
      record {
        first = ap (row after) (sym (at-line 0 1 9 first_below)) ∙ f.given (line_of 0 1 9) (Memᴰ.head refl)
            ∙ with_pixels 0 1 9 first_below;
        first-number = numbered after f 0 3 first_below
            (smallest (of_packet (line_of 0 1 3) (Memᴰ.tail (Memᴰ.tail (Memᴰ.head refl))) (at-line 0 1 3 first_below) refl)
            (λ m p. least m (numbers 0 m first_below p)));
        second = ap (row after) (sym (at-line 1 2 4 second_below)) ∙ f.given (line_of 1 2 4) (Memᴰ.tail (Memᴰ.head refl))
            ∙ with_pixels 1 2 4 second_below;
        second-number = numbered after f 1 4 second_below
            (smallest (of_packet (line_of 1 2 4) (Memᴰ.tail (Memᴰ.head refl)) (at-line 1 2 4 second_below) refl)
            (λ m p. alone m (numbers 1 m second_below p)));
        third = f.others 2 (omega arith) (λ a m e. not_third a e (said a m));
        third-number = numbered after f 2 0 (omega arith) (none (λ m p. no_number m (numbers 2 m (omega arith) p)) refl);
      }
    where
      least : (m : ℕ) → Among 0 m → 3 ≤ m
      least m (inl s) = s.1
      least m (inr s) = absurd (zero_or_one s.0)

      alone : (m : ℕ) → Among 1 m → 4 ≤ m
      alone m (inl s) = absurd (zero_or_one (sym s.0))
      alone m (inr s) = omega arith

      not_third : (a : Arrived) → line a ≡ 2 → Said a → ⊥
      not_third a e (inl s) = let z = s.0 in omega arith
      not_third a e (inr s) = let z = s.0 in omega arith

      no_number : (m : ℕ) → Among 2 m → ⊥
      no_number m (inl s) = let z = s.0 in omega arith
      no_number m (inr s) = let z = s.0 in omega arith

pub three-lines : ThreeLines
three-lines held empty =
    let g : Agreeing 1 held three = agreeing held empty in (
      g,
      λ after t xs p q.
          let e : Same three t = reordered three t p in
          filled held empty after (refilled held after three t e (fills 1 held after t xs (agree_in_order 1 held three t e g) q).1),
    )

pub two_sets : TwoSets
two_sets held empty =
    let below : 0 < image_lines = omega arith in (
      accepts 0 1 9 below held empty (omega arith),
      accepts 0 2 8 below held empty (omega arith),
      at-line 0 1 9 below ∙ sym (at-line 0 2 8 below),
      λ e. two-pixels (sym (with_pixels 0 1 9 below) ∙ e ∙ with_pixels 0 2 8 below),
    )
  where
    two-pixels : all 1 ≡ all 2 → ⊥
    two-pixels e = let z : ◌≡◌ {A = ℕ} 1 2 = ap (λ (s : List ℕ). at s 0) e in omega arith
