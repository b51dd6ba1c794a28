-- Frames gone over one after another.
use Prim.Native.Nat.{ℕ, ◌+◌, ◌-◌, ◌≤◌, ◌<◌}
use mathlib.Core.Path.{◌≡◌, sym, ap, subst, ◌∙◌}
use mathlib.Core.Bool.{Bool, true, false}
use mathlib.Core.List.{List, [], ◌∷◌, ◌++◌, map}
use native.Mathlib.Nat.{zero-add}
use native.Mathlib.Omega.{arith}
use lib.ListN.{length, get_or, take, drop, set, length-set, length-append, length-take, length-drop}
use lib.Seq.{sets, take-take, sets-eq}
use lib.Dec.{eqb}
use Rattle.octets.specs.Pick.{pick}
use Rattle.octets.specs.Parts.{written}
use Rattle.crc.specs.Check.{before}
use Rattle.rules.specs.Packets.{joined, cut, total}
use Rattle.rules.proofs.Lengths.{total-all}
use Rattle.lengths.proofs.Reached.{Reached, reached_first, reached_fits, reached_next, cut-here, cut-over}
use Rattle.kiss.specs.Stream.{mark, escape, for_mark, for_escape, escaped_octet, escaped}
use Rattle.kiss_writer.specs.Export.{body_block, block_of, stream_of}
use Rattle.kiss_writer.specs.Asked.{BlockRoom, Checked, Frames, Room}
use Rattle.kiss_writer.proofs.Laid.{Laying, laying_first, laying_part, laying_end}

-- ---- lengths

two-at-most : (x : ℕ) → length (escaped_octet x) ≤ 2
unfolding pick
two-at-most x = go (eqb x mark) (eqb x escape)
  where
    go : (t u : Bool) → length (pick t (escape ∷ for_mark ∷ []) (pick u (escape ∷ for_escape ∷ []) (x ∷ []))) ≤ 2
    go true u = omega arith
    go false true = omega arith
    go false false = omega arith

escaped-short : (s : List ℕ) → length (escaped s) ≤ length s + length s
escaped-short [] = omega arith
escaped-short (x ∷ s) = omega (arith, length-append (escaped_octet x) (escaped s), two-at-most x, escaped-short s)

length_block : (body : List ℕ) → length (body_block body) ≡ 2 + length (escaped body)
unfolding pick
length_block body = omega (arith, length-append (escaped body) (mark ∷ []))

-- ---- one frame

-- frames whose octets add up; number i starts at `at`
pub record Standing (d ns : List ℕ) (at i : ℕ) : Type 0 where
  pub reached : Reached ns at i
  pub adds : total ns ≡ length d
  pub checked : Checked (cut (drop at d) (drop i ns))

abbrev pub left : List ℕ → List ℕ → ℕ → ℕ → List ℕ
left d ns at i = joined (map block_of (cut (drop at d) (drop i ns)))

pub standing-first : {d ns : List ℕ} → Frames d ns → Standing d ns 0 0
standing-first {ns = ns} f = record { reached = reached_first ns; adds = f.adds; checked = f.checked }

module _ {d ns : List ℕ} {at i : ℕ} (t : Standing d ns at i) where
  pub left_over : length ns ≤ i → left d ns at i ≡ []
  left_over h = ap (λ (l : List (List ℕ)). joined (map block_of l)) (cut-over (drop at d) ns i h)

  pub at-end : length ns ≤ i → at ≡ length d
  at-end h = t.reached.starts ∙ total-all ns i h ∙ t.adds

  module _ (h : i < length ns) where
    here : Checked (take (get_or ns i 0) (drop at d) ∷ cut (drop (at + get_or ns i 0) d) (drop (i + 1) ns))
    here = subst Checked (cut-here d ns at i h) t.checked

    pub fits : at + get_or ns i 0 ≤ length d
    fits = reached_fits t.reached d t.adds h

    whole : length (take (get_or ns i 0) (drop at d)) ≡ get_or ns i 0
    whole = omega (arith, length-take (get_or ns i 0) (drop at d), length-drop at d, fits)

    pub long : 2 ≤ get_or ns i 0
    long = omega (arith, here.0, whole)

    pub standing-next : Standing d ns (at + get_or ns i 0) (i + 1)
    standing-next = record { reached = reached_next t.reached h; adds = t.adds; checked = here.1 }

    -- the frame without its check, as the code cuts it out
    pub body_is : take ((at + get_or ns i 0) - 2 - at) (drop at d) ≡ before (take (get_or ns i 0) (drop at d))
    body_is =
        let k : (at + get_or ns i 0) - 2 - at ≡ length (take (get_or ns i 0) (drop at d)) - 2 = omega (arith, whole, long) in
        ap (λ (n : ℕ). take n (drop at d)) k ∙ sym
        (take-take (length (take (get_or ns i 0) (drop at d)) - 2) (get_or ns i 0) (drop at d) (omega (arith, whole)))

    pub left_here : left d ns at i ≡ body_block (take ((at + get_or ns i 0) - 2 - at) (drop at d)) ++ left d ns (at + get_or ns i 0) (i + 1)
    left_here =
        ap (λ (l : List (List ℕ)). joined (map block_of l)) (cut-here d ns at i h)
        ∙ ap (λ (b : List ℕ). body_block b ++ left d ns (at + get_or ns i 0) (i + 1)) (sym body_is)

    length-body : length (take ((at + get_or ns i 0) - 2 - at) (drop at d)) + 2 ≡ get_or ns i 0
    length-body = omega (arith, length-take ((at + get_or ns i 0) - 2 - at) (drop at d), length-drop at d, fits, long)

-- ---- how many octets are escaped

pub record Summing (d ns : List ℕ) (count at i : ℕ) : Type 0 where
  pub standing : Standing d ns at i
  pub few : count ≤ at
  pub even : length (stream_of (cut d ns)) ≡ 1 + at + count + length (left d ns at i)

pub summing_first : {d ns : List ℕ} → Frames d ns → Summing d ns 0 0 0
summing_first f = record { standing = standing-first f; few = omega arith; even = omega arith }

module _ {d ns : List ℕ} {count at i : ℕ} (t : Summing d ns count at i) where
  module _ (h : i < length ns) (r : ℕ)
      (e : length (escaped (take ((at + get_or ns i 0) - 2 - at) (drop at d))) ≡ length (take ((at + get_or ns i 0) - 2 - at) (drop at d)) + r)
    where
      pub summing_few : r ≤ get_or ns i 0
      summing_few = omega (arith, e, escaped-short (take ((at + get_or ns i 0) - 2 - at) (drop at d)), length-body t.standing h)

      pub summing_next : Summing d ns (count + r) (at + get_or ns i 0) (i + 1)
      summing_next =
          record {
            standing = standing-next t.standing h;
            few = omega (arith, t.few, summing_few);
            even =
                omega (
                  arith,
                  t.even,
                  ap length (left_here t.standing h),
                  length-append (body_block (take ((at + get_or ns i 0) - 2 - at) (drop at d))) (left d ns (at + get_or ns i 0) (i + 1)),
                  length_block (take ((at + get_or ns i 0) - 2 - at) (drop at d)),
                  e,
                  length-body t.standing h,
                );
          }

  pub summing_end : length ns ≤ i → length (stream_of (cut d ns)) ≡ length d + 1 + count
  summing_end h = omega (arith, t.even, ap length (left_over t.standing h), at-end t.standing h)

-- ---- the stream laid

pub record Writing (d ns o₀ o : List ℕ) (n at i : ℕ) : Type 0 where
  pub standing : Standing d ns at i
  pub room : length (stream_of (cut d ns)) ≤ length o₀
  pub laying : Laying o₀ 1 (joined (map block_of (cut d ns))) o n (left d ns at i)

pub writing-first : {d ns o : List ℕ} → Room d ns o → Writing d ns (set o 0 mark) (set o 0 mark) 1 0 0
writing-first {d} {ns} {o} r =
    record {
      standing = standing-first r.frames;
      room = simp length-set r.room;
      laying = laying_first (set o 0 mark) 1
          (joined (map block_of (cut d ns)));
    }

module _ {d ns o₀ o : List ℕ} {n at i : ℕ} (t : Writing d ns o₀ o n at i) where
  module _ (h : i < length ns) where
    pub writing-room : BlockRoom (take ((at + get_or ns i 0) - 2 - at) (drop at d)) n o
    writing-room =
        record {
          room =
              omega (
                arith,
                t.room,
                t.laying.same,
                t.laying.ends,
                ap length (left_here t.standing h),
                length-append (body_block (take ((at + get_or ns i 0) - 2 - at) (drop at d))) (left d ns (at + get_or ns i 0) (i + 1)),
              );
        }

    pub writing-next : {n' : ℕ} {o' : List ℕ}
        → (n' ≡ n + length (body_block (take ((at + get_or ns i 0) - 2 - at) (drop at d)))) ×
        (o' ≡ sets o n (body_block (take ((at + get_or ns i 0) - 2 - at) (drop at d))))
        → Writing d ns o₀ o' n' (at + get_or ns i 0) (i + 1)
    writing-next e =
        record {
          standing = standing-next t.standing h;
          room = t.room;
          laying =
              laying_part (body_block (take ((at + get_or ns i 0) - 2 - at) (drop at d)))
              (subst (λ (l : List ℕ). Laying o₀ 1 (joined (map block_of (cut d ns))) o n l) (left_here t.standing h) t.laying) e.1
              e.0;
        }

pub writing-end : (d ns o : List ℕ) {o₁ : List ℕ} {n at i : ℕ} → Writing d ns (set o 0 mark) o₁ n at i → length ns ≤ i
    → (n ≡ length (stream_of (cut d ns))) × (o₁ ≡ written (stream_of (cut d ns)) o)
writing-end d ns o {o₁} {n} t h =
    let e = laying_end (subst (λ (l : List ℕ). Laying (set o 0 mark) 1 (joined (map block_of (cut d ns))) o₁ n l) (left_over t.standing h)
    t.laying) in
    (omega (arith, e.0), e.1 ∙ sets-eq (stream_of (cut d ns)) o 0 (omega (arith, t.room, length-set o 0 mark)) ∙ rw zero-add)
