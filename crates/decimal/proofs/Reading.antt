-- Laws of reading a number: what its loop has found at each turn, and its ends.
use Rattle.std.specs.Prelude.{Some, None}
use Prim.Native.Nat.{ℕ, suc, ◌+◌, ◌-◌, ◌*◌, ◌≤◌, ◌<◌}
use native.Mathlib.Omega.{arith}
use native.Mathlib.Nat.{add-zero}
use native.Mathlib.Numerals.{add-one}
use mathlib.Core.Path.{◌≡◌, refl, sym, ap, ◌∙◌}
use mathlib.Core.List.{List, [], ◌∷◌}
use mathlib.Core.Bool.{Bool, true, false, not, ◌||◌, ◌&&◌}
use lib.ListN.{length, drop, drop_of_length-le}
use lib.Seq.{drop-cons, drop-drop, get_or-drop}
use lib.Dec.{eqb, ltb}
use borrow.Author.Tests.{lt-ltb, le-ltb, ne_eqb}
use Rattle.octets.specs.Numbers.{at}
use Rattle.octets.specs.Pick.{pick}
use Rattle.octets.proofs.Choices.{picked, passed}
use Rattle.decimal.specs.Text.{value_after}
use Rattle.decimal.specs.Read.{largest, no_digit, digits_of, number_of, ill_written, ends_otherwise, number_wrong, read_at}

or_second : (a : Bool) {b : Bool} → b ≡ true → (a || b) ≡ true
or_second true h = refl
or_second false h = h

-- a number that is too large, and a text that ends with its digits
wrong_large : (after : ℕ) (text : List ℕ) → largest < number_of text → number_wrong after text ≡ true
unfolding number_wrong
wrong_large after text h =
    or_second (ill_written (digits_of text))
    (ap (λ (b : Bool). b || ends_otherwise after (drop (length (digits_of text)) text)) (lt-ltb largest (number_of text) h))

wrong-cut : (after : ℕ) (text : List ℕ) → drop (length (digits_of text)) text ≡ [] → number_wrong after text ≡ true
unfolding number_wrong
wrong-cut after text h =
    or_second (ill_written (digits_of text)) (or_second (ltb largest (number_of text)) (ap (ends_otherwise after) h))

-- a number only grows with more digits
pub grows : (n : ℕ) (ds : List ℕ) → n ≤ value_after n ds
grows n [] = omega arith
grows n (d ∷ ds) = let h : n * 10 + (d - 48) ≤ value_after (n * 10 + (d - 48)) ds = grows (n * 10 + (d - 48)) ds in omega arith

-- digits that are badly written, by their number and the first octet
ill_by : (b : Bool) (c : ℕ) (ds : List ℕ)
    → ill_written (pick b [] (c ∷ ds)) ≡ (eqb (length (pick b [] (c ∷ ds))) 0 || (eqb c 48 && ltb 1 (length (pick b [] (c ∷ ds)))))
unfolding pick
ill_by true c ds = refl
ill_by false c [] = by (eqb c 48)
  where
    by : (t : Bool) → false ≡ (t && false)
    by true = refl
    by false = refl
ill_by false c (d ∷ ds) =
    simp (ne_eqb (suc (suc (length ds))) 0 (λ e. omega arith), lt-ltb 1 (suc (suc (length ds))) (omega arith)) (by (eqb c 48))
  where
    by : (t : Bool) → t ≡ (t && true)
    by true = refl
    by false = refl

ill : (s : List ℕ) → ill_written (digits_of s) ≡ (eqb (length (digits_of s)) 0 || (eqb (at s 0) 48 && ltb 1 (length (digits_of s))))
ill [] = refl
ill (c ∷ s) = ill_by (no_digit c) c (digits_of s)

-- of the number at index from, the digits before index end show n
pub record Reading (text : List ℕ) (from n end : ℕ) : Type 0 where
  pub value : number_of (drop from text) ≡ value_after n (digits_of (drop end text))
  pub count : from + length (digits_of (drop from text)) ≡ end + length (digits_of (drop end text))
  pub small : n ≤ largest
  pub behind : from ≤ end

pub begun : (text : List ℕ) (from : ℕ) → Reading text from 0 from
begun text from = record { value = refl; count = refl; small = omega arith; behind = omega arith }

-- what stands behind the digits
behind_digits : (text : List ℕ) (from n end : ℕ) → Reading text from n end → digits_of (drop end text) ≡ []
    → drop (length (digits_of (drop from text))) (drop from text) ≡ drop end text
behind_digits text from n end r none =
    let e : from + length (digits_of (drop from text)) ≡ end + 0 = r.count ∙ ap (λ (l : List ℕ). end + length l) none in
    drop-drop _ from text ∙ ap (λ (k : ℕ). drop k text) (e ∙ add-zero end)

module _ (text : List ℕ) (from n end : ℕ) (r : Reading text from n end) (inside : end < length text) where
  -- one more digit
  digit-on : no_digit (at text end) ≡ false → digits_of (drop end text) ≡ at text end ∷ digits_of (drop (end + 1) text)
  unfolding pick
  digit-on h = rw (drop-cons text end 0 inside, add-one) (simp h)

  abbrev next : ℕ
  next = n * 10 + (at text end - 48)

  value_on : no_digit (at text end) ≡ false → number_of (drop from text) ≡ value_after next (digits_of (drop (end + 1) text))
  value_on h = r.value ∙ ap (value_after n) (digit-on h)

  pub one_more : no_digit (at text end) ≡ false → next ≤ largest → Reading text from next (end + 1)
  one_more h s = record {
    value = value_on h;
    count = r.count ∙ ap (λ (l : List ℕ). end + length l) (digit-on h) ∙ omega arith;
    small = s;
    behind = omega (arith, r.behind);
  }

  pub too_large : (after : ℕ) → no_digit (at text end) ≡ false → largest < next → None ≡ read_at text from after
  unfolding read_at
  too_large after h l =
      let big : largest < number_of (drop from text) = omega (arith, value_on h, grows next (digits_of (drop (end + 1) text))) in
      picked _ _ _ (wrong_large after (drop from text) big)

  -- no digit more
  module _ (stop : no_digit (at text end) ≡ true) where
    ends-here : digits_of (drop end text) ≡ []
    unfolding pick
    ends-here = rw (drop-cons text end 0 inside) (simp stop)

    shows : number_of (drop from text) ≡ n
    shows = r.value ∙ ap (value_after n) ends-here

    many : length (digits_of (drop from text)) ≡ end - from
    many =
        let e : from + length (digits_of (drop from text)) ≡ end + 0 = r.count ∙ ap (λ (l : List ℕ). end + length l) ends-here in
        omega (arith, r.behind)

    pub settled : (after : ℕ)
        → number_wrong after (drop from text)
        ≡ ((eqb (end - from) 0 || (eqb (at text from) 48 && ltb 1 (end - from))) || not (eqb (at text end) after))
    unfolding number_wrong
    settled after =
        let here : List ℕ = drop from text in
        let k : ℕ = length (digits_of here) in
        let x : Bool = eqb (end - from) 0 || (eqb (at text from) 48 && ltb 1 (end - from)) in
        let first : at here 0 ≡ at text from = get_or-drop from text 0 0 ∙ ap (at text) (add-zero from) in
        let bad : ill_written (digits_of here) ≡ x =
        ill here ∙ ap (λ (c : ℕ). eqb k 0 || (eqb c 48 && ltb 1 k)) first ∙ ap
        (λ (m : ℕ). eqb m 0 || (eqb (at text from) 48 && ltb 1 m)) many in
        let few : ltb largest (number_of here) ≡ false = le-ltb largest (number_of here) (omega (arith, shows, r.small)) in
        ap (λ (b : Bool). b || (ltb largest (number_of here) || ends_otherwise after (drop k here))) bad
        ∙ ap (λ (b : Bool). x || (b || ends_otherwise after (drop k here))) few
        ∙ ap (λ (s : List ℕ). x || ends_otherwise after s) (behind_digits text from n end r ends-here ∙ drop-cons text end 0 inside)

    pub number-wrong : (after : ℕ) → ((eqb (end - from) 0 || (eqb (at text from) 48 && ltb 1 (end - from))) || not
        (eqb (at text end) after)) ≡ true
        → None ≡ read_at text from after
    unfolding read_at
    number-wrong after h = picked _ _ _ (settled after ∙ h)

    pub number_read : (after : ℕ) → ((eqb (end - from) 0 || (eqb (at text from) 48 && ltb 1 (end - from))) || not (eqb (at text end) after))
        ≡ false
        → Some (n, end + 1) ≡ read_at text from after
    unfolding read_at
    number_read after h =
        let k : from + length (digits_of (drop from text)) ≡ end = omega (arith, many, r.behind) in
        passed _ _ _ _ (settled after ∙ h)
        (ap (λ (m : ℕ). Some (m, end + 1)) (sym shows) ∙ ap (λ (m : ℕ). Some (number_of (drop from text), m + 1)) (sym k))

-- no octet more
pub text-ended : (text : List ℕ) (from n end after : ℕ) → Reading text from n end → length text ≤ end → None ≡ read_at text from after
unfolding read_at
text-ended text from n end after r h =
    let none : drop end text ≡ [] = drop_of_length-le text h in
    let here : List ℕ = drop from text in
    let cut : drop (length (digits_of here)) here ≡ [] = behind_digits text from n end r (ap digits_of none) ∙ none in
    picked _ _ _ (wrong-cut after here cut)
