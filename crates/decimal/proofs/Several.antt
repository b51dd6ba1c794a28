-- Laws by which numbers are read one behind another.
use Rattle.std.specs.Prelude.{Some, None}
use Prim.Native.Nat.{ℕ, zero, suc, ◌+◌}
use native.Mathlib.Omega.{arith}
use native.Mathlib.Nat.{add_assoc}
use mathlib.Core.Path.{◌≡◌, refl, sym, ap, ◌∙◌}
use mathlib.Core.List.{List, [], ◌∷◌}
use mathlib.Core.Bool.{Bool, true, false, ◌||◌}
use lib.ListN.{length, drop, drop_of_length-le}
use lib.Seq.{drop-drop, drop-cons}
use lib.Dec.{ltb}
use borrow.Author.Tests.{ltb-true, ltb-false}
use Rattle.octets.specs.Pick.{pick}
use Rattle.octets.proofs.Choices.{not_picked}
use Rattle.decimal.specs.Answers.{NumberRead}
use Rattle.decimal.specs.Read.{digits_of, number_of, number_wrong, read_at, behind, numbers_of, numbers_wrong}

-- a text starts with this number, and rest stands behind the octet that ends it
pub record Starts (after : ℕ) (text : List ℕ) (n : ℕ) (behind' : List ℕ) : Type 0 where
  pub right : number_wrong after text ≡ false
  pub number : number_of text ≡ n
  pub rest : behind text ≡ behind'

module _ (text : List ℕ) (from after : ℕ) where
  abbrev here : List ℕ
  here = drop from text

  -- what a call answered
  pub read_at_lem : (n next : ℕ) → read_at text from after ≡ Some (n, next) → Starts after here n (drop next text)
  unfolding read_at
  read_at_lem n next h =
      let k = not_picked (number_wrong after here) _ _ _ h (λ e. wrong-read e) in
      let e : ◌≡◌ {A = NumberRead} (Some (number_of here, from + length (digits_of here) + 1)) (Some (n, next)) = k.1 in
      let both : ◌≡◌ {A = ℕ × ℕ} (number_of here, from + length (digits_of here) + 1) (n, next) = cc in
      let end : from + length (digits_of here) + 1 ≡ next = ap (λ (p : ℕ × ℕ). p.1) both in
      record {
        right = k.0;
        number = ap (λ (p : ℕ × ℕ). p.0) both;
        rest = drop-drop (length (digits_of here) + 1) from text ∙ ap (λ (i : ℕ). drop i text)
            (sym (add_assoc from (length (digits_of here)) 1) ∙ end);
      }
    where
      wrong-read : {m j : ℕ} → ◌≡◌ {A = NumberRead} None (Some (m, j)) → ⊥
      wrong-read e = let z : ◌≡◌ {A = ℕ} 0 1 = cc in omega arith

  pub wrong-at : read_at text from after ≡ None → number_wrong after here ≡ true
  unfolding read_at pick
  wrong-at h = by (number_wrong after here) refl h
    where
      by : (b : Bool) → number_wrong after here ≡ b → pick {A = NumberRead} b None (Some (number_of here, from + length (digits_of here) + 1)) ≡ None
          → number_wrong after here ≡ true
      by true e k = e
      by false e k = let z : ◌≡◌ {A = ℕ} 0 1 = cc in absurd (omega arith)

-- one number of several
pub wrong-here : (k after : ℕ) (text : List ℕ) → number_wrong after text ≡ true → numbers_wrong (suc k) after text ≡ true
unfolding numbers_wrong
wrong-here k after text h = ap (λ (b : Bool). b || numbers_wrong k after (behind text)) h

pub wrong-on : (k after : ℕ) (text : List ℕ) {n : ℕ} {rest : List ℕ} → Starts after text n rest → numbers_wrong
    (suc k) after text ≡ numbers_wrong k after rest
unfolding numbers_wrong
wrong-on k after text s = ap (λ (b : Bool). b || numbers_wrong k after (behind text)) s.right ∙ ap (numbers_wrong k after) s.rest

pub numbers_on : (k after : ℕ) (text : List ℕ) {n : ℕ} {rest : List ℕ} → Starts after text n rest → numbers_of
    (suc k) text ≡ n ∷ numbers_of k rest
unfolding numbers_of
numbers_on k after text {n} s = ap (λ (m : ℕ). m ∷ numbers_of k (behind text)) s.number ∙ ap (λ (r : List ℕ). n ∷ numbers_of k r) s.rest

-- none left
pub no_numbers : (text : List ℕ) → numbers_of 0 text ≡ []
unfolding numbers_of
no_numbers text = refl

pub none_left : (text : List ℕ) (from after : ℕ) → ltb from (length text) ≡ numbers_wrong 0 after (drop from text)
unfolding numbers_wrong
none_left text from after = by (ltb from (length text)) refl
  where
    by : (b : Bool) → ltb from (length text) ≡ b → ltb from (length text) ≡ numbers_wrong 0 after (drop from text)
    by true h = h ∙ sym (ap (numbers_wrong 0 after) (drop-cons text from 0 (ltb-true from (length text) h)))
    by false h = h ∙ sym (ap (numbers_wrong 0 after) (drop_of_length-le text (ltb-false from (length text) h)))

-- as many as were asked for
pub numbers-length : (n : ℕ) (text : List ℕ) → length (numbers_of n text) ≡ n
unfolding numbers_of
numbers-length zero text = refl
numbers-length (suc n) text = ap suc (numbers-length n (behind text))
