-- The branches of the code are the cases of a bit's definition.
use Prim.Native.Nat.{ℕ, ◌+◌, ◌-◌, ◌*◌, ◌/◌, ◌%◌, ◌≤◌, ◌<◌, min}
use mathlib.Core.Path.{◌≡◌, sym, ◌∙◌}
use mathlib.Core.Bool.{Bool, true, false, not, ◌&&◌}
use mathlib.Core.List.{List}
use native.Mathlib.Omega.{arith}
use lib.ListN.{length, set}
use lib.Seq.{set_out}
use lib.Dec.{eqb}
use borrow.Author.Tests.{lt-ltb, le-ltb, eq-eqb, ne_eqb}
use Rattle.octets.specs.Pick.{pick}
use Rattle.bits.specs.Rows.{digit}
use Rattle.bits.proofs.Numbers.{digit_lt}
use Rattle.answer.specs.declared.Reason.TheVariants.{StretchOctets, StretchAbandoned}
use Rattle.stretch.specs.declared.Found.{Found}
use Rattle.stretch.specs.declared.Found.TheVariants.{Nothing, Frame, Refused}
use Rattle.rawbits.specs.Reader.{Standing, standing, row, counted, added, stored, begun, closed, five, after_one, after_zero}
use Rattle.rawbits.specs.Reader.{after, passed}
use Rattle.rawbits.specs.Eight.{trail, low, filled, eight_passed}
use Rattle.rawbits.specs.declared.Row.{Row}
use Rattle.rawbits.specs.declared.Reader.{Reader}

-- ---- a bit more of a frame

-- its last eight bits are an octet
pub latest-lt : (x t : ℕ) (b : Bool) → x < 256 → t ≡ 128 * digit b → x / 2 + t < 256
latest-lt x t b h e = omega (arith, digit_lt b)

module _ (r : Row) (b : Bool) (kept : List ℕ) {t : ℕ} (e : t ≡ 128 * digit b) where
  pub add-more : r.begun < 7 → (row (r.last / 2 + t) (r.begun + 1) r.whole ≡ added (length kept) r b) × (kept ≡ stored r b kept)
  unfolding added stored pick
  add-more h = (simp (lt-ltb _ _ h, e), simp (lt-ltb _ _ h))

  pub add-whole : 7 ≤ r.begun → {n : ℕ} {kept' : List ℕ} → n ≡ counted (length kept) r.whole → kept' ≡ set kept r.whole
      (r.last / 2 + t)
      → (row (r.last / 2 + t) 0 n ≡ added (length kept) r b) × (kept' ≡ stored r b kept)
  unfolding added stored pick
  add-whole h n k = (simp (le-ltb _ _ h, n, e), k ∙ simp (le-ltb _ _ h, e))

module _ (kept : List ℕ) (at x : ℕ) where
  pub keep_one : at < length kept → at + 1 ≡ counted (length kept) at
  unfolding counted pick
  keep_one h = simp (lt-ltb _ _ h)

  pub keep_none : length kept ≤ at → (at ≡ counted (length kept) at) × (kept ≡ set kept at x)
  unfolding counted pick
  keep_none h = (simp (le-ltb _ _ h), sym (set_out kept at x h))

-- ---- a flag's end

module _ (most : ℕ) (a : Reader) where
  pub closes_unseen : not a.seen ≡ true → Nothing ≡ closed most a
  unfolding closed pick
  closes_unseen e = simp e

  module _ (s : not a.seen ≡ false) where
    pub closes_abandoned : a.abandoned ≡ true → Refused StretchAbandoned ≡ closed most a
    unfolding closed pick
    closes_abandoned e = simp (s, e)

    module _ (t : a.abandoned ≡ false) where
      pub closes_odd : not (eqb a.mark 0) ≡ true → Refused StretchOctets ≡ closed most a
      unfolding closed pick
      closes_odd e = simp (s, t, e)

      pub closes_empty : not (eqb a.mark 0) ≡ false → a.row.whole ≡ 0 → Nothing ≡ closed most a
      unfolding closed pick
      closes_empty e w = simp (s, t, e, eq-eqb _ _ w)

      pub closes_frame : (n : ℕ) → not (eqb a.mark 0) ≡ false → (a.row.whole ≡ 0 → ⊥) → n ≡ min a.row.whole most
          → Frame n ≡ closed most a
      unfolding closed pick
      closes_frame n e w m = simp (s, t, e, ne_eqb _ _ w, m)

-- ---- a 1, and a 0 that ends no flag

module _ (a : Reader) (kept kept' : List ℕ) (r : Row) (g : r ≡ added (length kept) a.row true)
    (k : kept' ≡ stored a.row true kept) where
  abbrev one : ℕ → Bool → Standing
  one ones lost = standing (record { seen = a.seen; ones = ones; abandoned = lost; mark = a.mark; row = r }) kept'

  pub one_more : a.ones < 5 → one (a.ones + 1) a.abandoned ≡ after (standing a kept) true
  unfolding after after_one pick
  one_more h = simp (lt-ltb _ _ h, g, k)

  pub one-sixth : 5 ≤ a.ones → (eqb a.ones 5 && not (five a.row)) ≡ true → one 6 a.abandoned ≡ after (standing a kept) true
  unfolding after after_one pick
  one-sixth h e = simp (le-ltb _ _ h, e, g, k)

  pub one-many : 5 ≤ a.ones → (eqb a.ones 5 && not (five a.row)) ≡ false → one 7 true ≡ after (standing a kept) true
  unfolding after after_one pick
  one-many h e = simp (le-ltb _ _ h, e, g, k)

module _ (a : Reader) (kept : List ℕ) where
  abbrev zero : Row → List ℕ → Standing
  zero r kept' = standing (record { seen = a.seen; ones = 0; abandoned = a.abandoned; mark = a.row.begun; row = r }) kept'

  pub zero-stuffed : eqb a.ones 5 ≡ true → zero a.row kept ≡ after (standing a kept) false
  unfolding after after_zero pick
  zero-stuffed e = simp e

  pub zero_more : eqb a.ones 5 ≡ false → (r : Row) (kept' : List ℕ) → r ≡ added (length kept) a.row false → kept' ≡ stored
      a.row false kept
      → zero r kept' ≡ after (standing a kept) false
  unfolding after after_zero pick
  zero_more e r kept' g k = simp (e, g, k)

-- ---- a bit

module _ (a : Standing) (b : Bool) (f : Found) where
  module _ {s : Standing} (e : s ≡ after a b) where
    pub one_passes : b ≡ true → record { standing = s; found = f } ≡ passed (record { standing = a; found = f }) b
    unfolding passed pick
    one_passes h = simp (h, e)

    pub zero-passes : b ≡ false → (a.reader.ones ≡ 6 → ⊥) → record { standing = s; found = f } ≡ passed
        (record { standing = a; found = f }) b
    unfolding passed pick
    zero-passes h n = simp (h, ne_eqb _ _ n, e)

  pub flag-ends : {g : Found} {r : Reader} → b ≡ false → a.reader.ones ≡ 6 → g ≡ closed (length a.kept) a.reader → r ≡ begun true
      → record { standing = standing r a.kept; found = g } ≡ passed (record { standing = a; found = f }) b
  unfolding passed pick
  flag-ends h n e d = simp (h, eq-eqb _ _ n, e, d)

-- ---- eight bits at once

pub eight_is : (a : Reader) (kept : List ℕ) (entry : ℕ) {n : ℕ} {kept' : List ℕ} → n ≡ counted (length kept) a.row.whole
    → kept' ≡ set kept a.row.whole (filled a.row entry)
    → standing
    (record {
      seen = a.seen;
      ones = trail entry;
      abandoned = a.abandoned;
      mark = (a.row.begun + 15 - trail entry) % 8;
      row = row
          (low entry) a.row.begun n;
    })
    kept'
    ≡ eight_passed (standing a kept) entry
unfolding eight_passed
eight_is a kept entry n k = simp (n, k)
