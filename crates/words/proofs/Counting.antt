-- Laws of reading a number: what the loop has found at each turn, and its ends.
use Prim.Native.Nat.{ℕ, ◌+◌, ◌-◌, ◌*◌, ◌≤◌, ◌<◌}
use native.Mathlib.Omega.{arith}
use native.Mathlib.Numerals.{add-one}
use mathlib.Core.Path.{◌≡◌, refl, sym, ap, ◌∙◌}
use mathlib.Core.Bool.{true, false}
use mathlib.Core.List.{List, [], ◌∷◌}
use lib.ListN.{length, drop, drop_of_length-le}
use lib.Seq.{drop-cons}
use lib.Dec.{ltb}
use borrow.Author.Tests.{lt-ltb, le-ltb, ne_eqb, eq-eqb, ltb-false}
use Rattle.octets.specs.Numbers.{at}
use Rattle.octets.proofs.Choices.{picked, passed, picks}
use Rattle.octets.proofs.Tests.{or_right}
use Rattle.decimal.specs.Text.{value_after}
use Rattle.decimal.specs.Read.{no_digit}
use Rattle.decimal.proofs.Reading.{grows}
use Rattle.words.specs.Words.{none, largest, other_than_digits, number_of}

-- the first i octets are digits that show n
pub record Counted (s : List ℕ) (n i : ℕ) : Type 0 where
  pub value : value_after 0 s ≡ value_after n (drop i s)
  pub digits : other_than_digits s ≡ other_than_digits (drop i s)
  pub small : n ≤ largest

pub begun : (s : List ℕ) → Counted s 0 0
begun s = record { value = refl; digits = refl; small = omega arith }

pub at_most_9 : (x : ℕ) → no_digit x ≡ false → x ≤ 57
at_most_9 x h = ltb-false 57 x (or_right (ltb x 48) (ltb 57 x) h)

pub no_digits : (s : List ℕ) → length s ≡ 0 → none ≡ number_of s
unfolding number_of
no_digits s e = picked _ _ _ (eq-eqb _ _ e)

module _ (s : List ℕ) (some : length s ≡ 0 → ⊥) where
  other-number : other_than_digits s ≡ true → none ≡ number_of s
  unfolding number_of
  other-number h = passed _ _ _ _ (ne_eqb _ _ some) (picked _ _ _ h)

  large_number : largest < value_after 0 s → none ≡ number_of s
  unfolding number_of
  large_number h =
      passed _ _ _ _ (ne_eqb _ _ some)
      (picks (λ (x : ℕ). none ≡ x) (other_than_digits s) none _ (λ _. refl) (λ _. picked _ _ _ (lt-ltb _ _ h)))

  module _ (n i : ℕ) (c : Counted s n i) where
    module _ (l : i < length s) where
      here : drop i s ≡ at s i ∷ drop (i + 1) s
      here = rw (drop-cons s i 0 l, add-one) refl

      pub another : no_digit (at s i) ≡ true → none ≡ number_of s
      unfolding other_than_digits
      another h = other-number (c.digits ∙ ap other_than_digits here ∙ simp h)

      pub too_large : 99999 < n → none ≡ number_of s
      too_large h =
          let k : ℕ = n * 10 + (at s i - 48) in
          let v : value_after 0 s ≡ value_after k (drop (i + 1) s) = c.value ∙ ap (value_after n) here in
          large_number (omega (arith, v, grows k (drop (i + 1) s)))

      pub one_more : no_digit (at s i) ≡ false → n ≤ 99999 → Counted s (n * 10 + (at s i - 48)) (i + 1)
      unfolding other_than_digits
      one_more h m = record {
        value = c.value ∙ ap (value_after n) here;
        digits = c.digits ∙ ap other_than_digits here ∙ simp h;
        small = omega (arith, at_most_9 (at s i) h);
      }

    pub all_read : length s ≤ i → n ≡ number_of s
    unfolding number_of other_than_digits
    all_read l =
        let e : drop i s ≡ [] = drop_of_length-le s l in
        let v : value_after 0 s ≡ n = c.value ∙ ap (value_after n) e in
        let d : other_than_digits s ≡ false = c.digits ∙ ap other_than_digits e in
        let m : ltb largest (value_after 0 s) ≡ false = le-ltb largest (value_after 0 s) (omega (arith, v, c.small)) in
        passed _ _ _ _ (ne_eqb _ _ some) (passed _ _ _ _ d (passed _ _ _ _ m (sym v)))
