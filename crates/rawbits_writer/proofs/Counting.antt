-- How many bits there are, counted.
use Prim.Native.Nat.{ℕ, ◌+◌, ◌-◌, ◌*◌, ◌/◌, ◌%◌, ◌≤◌, ◌<◌}
use mathlib.Core.Path.{◌≡◌, refl, sym, ap, subst, ◌∙◌}
use mathlib.Core.Bool.{Bool, true, false, not, ◌&&◌}
use mathlib.Core.List.{List, [], ◌∷◌, ◌++◌}
use native.Mathlib.Omega.{arith}
use lib.ListN.{length, get_or, take, drop, drop_of_length-le, length-append, length-take}
use lib.Dec.{ltb, eqb}
use borrow.Author.Tests.{lt-ltb, le-ltb, eqb-true, eqb-false}
use Rattle.bits.specs.Rows.{bits_of, bits_of_all}
use Rattle.bits.specs.Rows.Order.{low_first}
use Rattle.bits.proofs.Field.{length-octets}
use Rattle.frame.specs.Limits.{greatest_length}
use Rattle.rules.specs.Packets.{cut}
use Rattle.lengths.proofs.Reached.{Reached, reached_first, reached_fits, reached_next, cut-here, cut-over}
use Rattle.rawbits.specs.Recording.{flag}
use Rattle.rawbits_writer.specs.Stream.{stuffed, body_bits, frame_bits, all_bits, stream_of}
use Rattle.rawbits_writer.specs.Pen.{start, with_row, after, Ready, Frames}
use Rattle.rawbits_writer.specs.declared.laying.Pen.{Pen}
use Rattle.rawbits_writer.proofs.Outside.{all_short}
use Rattle.rawbits_writer.proofs.Stuffing.{stuffed-few, stuffed-here}
use Rattle.rawbits_writer.proofs.Penning.{row-bits, row-ones}

-- ---- the bits of a frame

pub start-ready : {k : ℕ} {p : Pen} → p ≡ start k → Ready p
start-ready e = subst Ready (sym e) (record { small = omega arith; few = omega arith })

pub record Measures (f : List ℕ) (count ones i : ℕ) : Type 0 where
  pub inside : i ≤ length f
  pub even : count + length (stuffed ones (bits_of_all low_first (drop i f))) ≡ length (body_bits f)
  pub few : count ≤ 16 * i

pub measures_first : (f : List ℕ) → Measures f 0 0 0
measures_first f = record { inside = omega arith; even = omega arith; few = omega arith }

module _ {f : List ℕ} {count ones i : ℕ} (t : Measures f count ones i) where
  module _ (h : i < length f) {p q : Pen} (d : p ≡ start ones) (e : q ≡ with_row p (bits_of low_first 8 (get_or f i 0))) where
    is : q ≡ with_row (start ones) (bits_of low_first 8 (get_or f i 0))
    is = e ∙ ap (λ (r : Pen). with_row r (bits_of low_first 8 (get_or f i 0))) d

    bits : q.bits ≡ 0 + length (stuffed ones (bits_of low_first 8 (get_or f i 0)))
    bits = ap (λ (r : Pen). r.bits) is ∙ row-bits (start ones) (bits_of low_first 8 (get_or f i 0))

    pub measures_few : q.bits ≤ 16
    measures_few = omega (arith, bits, stuffed-few ones (bits_of low_first 8 (get_or f i 0)))

    pub measures_next : Measures f (count + q.bits) q.ones (i + 1)
    measures_next =
        let n : q.ones ≡ after ones (bits_of low_first 8 (get_or f i 0)) = ap (λ (r : Pen). r.ones) is ∙ row-ones (start ones)
        (bits_of low_first 8 (get_or f i 0)) in
        record {
          inside = omega arith;
          even =
              omega (
                arith,
                t.even,
                bits,
                ap (λ (k : ℕ). length (stuffed k (bits_of_all low_first (drop (i + 1) f)))) n,
                ap length (stuffed-here ones f i h),
                length-append (stuffed ones (bits_of low_first 8 (get_or f i 0)))
                    (stuffed (after ones (bits_of low_first 8 (get_or f i 0))) (bits_of_all low_first (drop (i + 1) f))),
              );
          few = omega (arith, t.few, measures_few);
        }

  pub measures_end : length f ≤ i → count ≡ length (body_bits f)
  measures_end h = omega (arith, t.even, ap (λ (s : List ℕ). length (stuffed ones (bits_of_all low_first s))) (drop_of_length-le f h))

pub length-all : (f : List ℕ) → length (bits_of_all low_first f) ≡ 8 * length f
length-all [] = refl
length-all (x ∷ f) = omega (arith, length-append (bits_of low_first 8 x) (bits_of_all low_first f), length-all f)

-- ---- the octets of all frames

pub length_stream : (frames : List (List ℕ)) → length (stream_of frames) ≡ (length (all_bits frames) + 7) / 8
unfolding stream_of
length_stream frames = length-octets ((length (all_bits frames) + 7) / 8) _

pub no_room : (frames : List (List ℕ)) {room : ℕ} → room ≡ 0 → true ≡ ltb room (length (stream_of frames))
no_room frames {room} h = sym (lt-ltb room (length (stream_of frames)) (omega (arith, length_stream frames)))

pub record Counting (d ns : List ℕ) (room left part at i : ℕ) : Type 0 where
  pub reached : Reached ns at i
  pub few : part < 8
  pub inside : left < room
  pub even : room * 8 + part + length (frame_bits (cut (drop at d) (drop i ns))) ≡ left * 8 + length (all_bits (cut d ns))

pub counting_first : (d ns : List ℕ) {room : ℕ} → (room ≡ 0 → ⊥) → Counting d ns room (room - 1) 0 0 0
counting_first d ns h = record { reached = reached_first ns; few = omega arith; inside = omega (arith, h); even = omega (arith, h) }

module _ {d ns : List ℕ} {room left part at i : ℕ} (t : Counting d ns room left part at i) where
  pub counting_fits : Frames d ns → i < length ns → at + get_or ns i 0 ≤ length d
  counting_fits f h = reached_fits t.reached d f.adds h

  module _ (h : i < length ns) where
    part-is : take ((at + get_or ns i 0) - at) (drop at d) ≡ take (get_or ns i 0) (drop at d)
    part-is = let e : (at + get_or ns i 0) - at ≡ get_or ns i 0 = omega arith in ap (λ (n : ℕ). take n (drop at d)) e

    pub counting_short : Frames d ns → length (take ((at + get_or ns i 0) - at) (drop at d)) ≤ greatest_length
    counting_short f = omega (arith, ap length part-is, length-take (get_or ns i 0) (drop at d), all_short ns f.inside i h)

    module _ {m : ℕ} (e : m ≡ length (body_bits (take ((at + get_or ns i 0) - at) (drop at d)))) where
      pub counting_few : Frames d ns → m ≤ 4384
      counting_few f =
          omega (
            arith,
            e,
            stuffed-few 0 (bits_of_all low_first (take ((at + get_or ns i 0) - at) (drop at d))),
            length-all (take ((at + get_or ns i 0) - at) (drop at d)),
            counting_short f,
          )

      here : length (frame_bits (cut (drop at d) (drop i ns))) ≡ m + 8 + length
          (frame_bits (cut (drop (at + get_or ns i 0) d) (drop (i + 1) ns)))
      here =
          let f = take (get_or ns i 0) (drop at d) in
          let r = frame_bits (cut (drop (at + get_or ns i 0) d) (drop (i + 1) ns)) in
          let g : length (body_bits f ++ flag ++ r) ≡ length (body_bits f) + 8 + length r = length-append (body_bits f ++ flag) r ∙ omega
          (arith, length-append (body_bits f) flag) in
          let k : length (body_bits f) ≡ m = ap (λ (s : List ℕ). length (body_bits s)) (sym part-is) ∙ sym e in
          ap (λ (l : List (List ℕ)). length (frame_bits l)) (cut-here d ns at i h) ∙ g ∙ ap (λ (n : ℕ). n + 8 + length r) k

      pub counting_over : left < (part + m + 8) / 8 → true ≡ ltb room (length (stream_of (cut d ns)))
      counting_over l = sym (lt-ltb room (length (stream_of (cut d ns))) (omega (arith, length_stream (cut d ns), t.even, here)))

      pub counting_next : (part + m + 8) / 8 ≤ left → Counting d ns room (left - (part + m + 8) / 8) ((part + m + 8) % 8) (at + get_or ns i 0)
          (i + 1)
      counting_next l =
          record {
            reached = reached_next t.reached h;
            few = omega arith;
            inside = omega (arith, t.inside);
            even = omega (arith, t.even, here);
          }

  pub counting_end : length ns ≤ i → (eqb left 0 && not (eqb part 0)) ≡ ltb room (length (stream_of (cut d ns)))
  counting_end h = go (eqb left 0) refl (eqb part 0) refl
    where
      none : length (frame_bits (cut (drop at d) (drop i ns))) ≡ 0
      none = ap (λ (l : List (List ℕ)). length (frame_bits l)) (cut-over (drop at d) ns i h)

      go : (b : Bool) → eqb left 0 ≡ b → (c : Bool) → eqb part 0 ≡ c → (b && not c) ≡ ltb room (length (stream_of (cut d ns)))
      go true e false f =
          sym (lt-ltb room (length (stream_of (cut d ns)))
          (omega (arith, length_stream (cut d ns), t.even, none, eqb-true left 0 e, eqb-false part 0 f)))
      go true e true f =
          sym (le-ltb room (length (stream_of (cut d ns)))
          (omega (arith, length_stream (cut d ns), t.even, none, eqb-true left 0 e, eqb-true part 0 f)))
      go false e c f =
          sym (le-ltb room (length (stream_of (cut d ns)))
          (omega (arith, length_stream (cut d ns), t.even, t.few, t.inside, none, eqb-false left 0 e)))
