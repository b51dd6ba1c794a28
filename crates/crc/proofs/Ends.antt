-- Octets that end in their check: what a writer gives, what a reader accepts, and what the residue tells are the same.
use mathlib.Core.Path.{◌≡◌, refl, sym, ap, ◌∙◌}
use mathlib.Core.Bool.{Bool, false}
use mathlib.Core.List.{List, [], ◌∷◌, ◌++◌}
use Prim.Native.Nat.{ℕ, suc, ◌+◌, ◌-◌, ◌/◌, ◌%◌, ◌≤◌}
use native.Mathlib.Nat.{add-zero}
use native.Mathlib.Omega.{arith}
use lib.ListN.{length, take, length-append, take-append-drop, drop_of_length-le}
use lib.Seq.{take_at, drop-cons, get_or-append-add}
use borrow.Author.Tests.{eq-eqb, eqb-true, not-false}
use Rattle.octets.specs.Numbers.{at}
use Rattle.octets.proofs.Laws.{word_of}
use Rattle.bits.specs.Rows.{Order}
use Rattle.crc.specs.Check.{octets_of, word_in, check, with_check, before, check_wrong}
use Rattle.bits.specs.Rows.Order.{high_first, low_first}
use Rattle.crc.specs.Statements.{Found, Accepted, SameTest}
use Rattle.crc.proofs.Own.{octets-word, own, only_own}

-- the last two of octets with the two octets of v behind them are those of v
last-two : (o : Order) (b : List ℕ) (v : ℕ)
    → word_in o (at (b ++ octets_of o v) (length b + 0)) (at (b ++ octets_of o v) (length b + 1)) ≡ v
last-two high_first b v = simp (get_or-append-add, word_of)
last-two low_first b v = simp (get_or-append-add, word_of)

length_two : (o : Order) (b : List ℕ) (v : ℕ) → length (b ++ octets_of o v) ≡ length b + 2
length_two high_first b v = length-append b (octets_of high_first v)
length_two low_first b v = length-append b (octets_of low_first v)

pub found : Found
unfolding with_check check_wrong
found o m b =
    let v : ℕ = check o m b in
    let n₂ : length (b ++ octets_of o v) - 2 ≡ length b + 0 = omega (arith, length_two o b v) in
    let n₁ : length (b ++ octets_of o v) - 1 ≡ length b + 1 = omega (arith, length_two o b v) in
    simp (n₂, n₁, last-two, take_at b (octets_of o v) (length b + 0) (sym (add-zero (length b))), eq-eqb v v refl)

-- the last two octets are the check of those before them
ends : (o : Order) (m : List Bool) (l : List ℕ) → check_wrong o m l ≡ false
    → word_in o (at l (length l - 2)) (at l (length l - 1)) ≡ check o m (before l)
unfolding check_wrong
ends o m l h = eqb-true _ _ (not-false _ h)

-- octets are all but the last two, and these
apart : (l : List ℕ) → 2 ≤ length l → l ≡ before l ++ (at l (length l - 2) ∷ at l (length l - 1) ∷ [])
apart l h =
    let n : ℕ = length l - 2 in
    let e : suc n ≡ length l - 1 = omega arith in
    sym (take-append-drop n l)
    ∙ ap (λ (r : List ℕ). take n l ++ r)
    (drop-cons l n 0 (omega arith)
    ∙ ap (λ (r : List ℕ). at l n ∷ r)
    (drop-cons l (suc n) 0 (omega arith) ∙ simp (e, drop_of_length-le l {i = suc (length l - 1)} (omega arith))))

pub accepted : Accepted
unfolding with_check
accepted o m l p e =
    ap (λ (v : ℕ). before l ++ octets_of o v) (sym (ends o m l e))
    ∙ ap (λ (r : List ℕ). before l ++ r) (octets-word o (at l (length l - 2)) (at l (length l - 1)) (p.small _) (p.small _))
    ∙ sym (apart l p.two)

word-octets : (o : Order) (x y v : ℕ) → x ∷ y ∷ [] ≡ octets_of o v → word_in o x y ≡ v
word-octets high_first x y v e = let h : x ≡ v / 256 = cc in let l : y ≡ v % 256 = cc in omega arith
word-octets low_first x y v e = let h : y ≡ v / 256 = cc in let l : x ≡ v % 256 = cc in omega arith

pub same_test : SameTest
unfolding check_wrong
same_test o m w l p = (
  (λ e. ap (check o m) (sym (accepted o m l p e)) ∙ own o m w (before l)),
  (λ e. simp (eq-eqb _ _ (word-octets o _ _ _
      (only_own o m w (before l) _ _ (p.small _) (p.small _) (ap (check o m) (sym (apart l p.two)) ∙ e))))),
)
