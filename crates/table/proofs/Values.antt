-- Laws of a value in a packet.
use Prim.Native.Nat.{ℕ, zero, suc, ◌+◌, ◌-◌, ◌≤◌, ◌<◌}
use native.Mathlib.Omega.{arith}
use mathlib.Core.Path.{◌≡◌, refl, sym, ap, ◌∙◌}
use mathlib.Core.Bool.{Bool, true, false}
use mathlib.Core.List.{List, ◌∷◌, ◌++◌, append-nil}
use lib.ListN.{length, take, drop, replicate, length-append}
use borrow.Author.Tests.{le-leb, lt-leb}
use Rattle.octets.specs.Parts.{part, put}
use Rattle.octets.specs.Same.{same}
use Rattle.octets.proofs.Comparing.{same_is_equal}
use Rattle.octets.proofs.Placing.{put-fits}
use Rattle.octets.proofs.Runs.{length_part}
use Rattle.table.specs.Table.{Column, stands}

-- rows of other lengths are not equal
other_lengths : (s t : List ℕ) → (length s ≡ length t → ⊥) → same s t ≡ false
other_lengths s t h = by (same s t) refl
  where
    by : (b : Bool) → same s t ≡ b → b ≡ false
    by true e = absurd (h (ap length ((same_is_equal s t).0 e)))
    by false e = refl

-- fewer zeros of several
zeros-before : (k n : ℕ) → k ≤ n → take {A = ℕ} k (replicate n 0) ≡ replicate k 0
zeros-before zero n h = refl
zeros-before (suc k) zero h = absurd (omega arith)
zeros-before (suc k) (suc n) h = ap (λ (s : List ℕ). 0 ∷ s) (zeros-before k n (omega arith))

module _ (c : Column) (packet value : List ℕ) where
  pub absent : length packet < c.offset + c.width → false ≡ stands c packet value
  unfolding stands
  absent h = simp (lt-leb _ _ h)

  module _ (inside : c.offset + c.width ≤ length packet) where
    pub too_wide : length value ≡ 8 → 8 < c.width → false ≡ stands c packet value
    unfolding stands
    too_wide l h =
        let n : length (part packet c.offset c.width) ≡ c.width = length_part packet c.offset c.width inside in
        let longer : length value ≡ length (replicate (8 - c.width) 0 ++ part packet c.offset c.width) → ⊥ =
        λ e. omega (arith, e, l, n, h, length-append (replicate (8 - c.width) 0) (part packet c.offset c.width)) in
        simp (le-leb _ _ inside, other_lengths value (replicate (8 - c.width) 0 ++ part packet c.offset c.width) longer)

    -- zeros with the octets put at their end
    padded : c.width ≤ 8 → put (replicate 8 0) (8 - c.width) (part packet c.offset c.width)
        ≡ replicate (8 - c.width) 0 ++ part packet c.offset c.width
    padded h =
        let n : length (part packet c.offset c.width) ≡ c.width = length_part packet c.offset c.width inside in
        let all : 8 - c.width + length (part packet c.offset c.width) ≡ 8 = omega (arith, n) in
        sym (put-fits (replicate 8 0) (8 - c.width) (part packet c.offset c.width) (omega (arith, n)))
        ∙ ap (λ (k : ℕ). take (8 - c.width) (replicate {A = ℕ} 8 0) ++ part packet c.offset c.width ++ drop k (replicate 8 0)) all
        ∙ simp (zeros-before (8 - c.width) 8 (omega arith), append-nil)

    pub compared : c.width ≤ 8
        → same value (put (replicate 8 0) (8 - c.width) (part packet c.offset c.width)) ≡ stands c packet value
    unfolding stands
    compared h = simp (le-leb _ _ inside, padded h)

-- what the calls left: the octets, behind zeros, compared with the value
pub comparing : {offset width at n : ℕ} (packet value : List ℕ) → at ≡ offset → n ≡ width → at + n ≤ length packet → n ≤ 8
    → {p w : List ℕ} {b : Bool} → p ≡ part packet at n → w ≡ put (replicate 8 0) (8 - n) p → b ≡ same value w
    → b ≡ stands (record { offset = offset; width = width }) packet value
comparing packet value a e inside small o w b =
    let i = rw (a, e) at inside in
    b ∙ ap (same value) (w ∙ rw (o, a, e)) ∙ compared _ packet value i (rw e at small)
