-- Laws of a line's first word and what stands behind it.
use Prim.Native.Nat.{ℕ, suc, ◌+◌, ◌-◌, ◌≤◌, ◌<◌}
use native.Mathlib.Omega.{arith}
use native.Mathlib.Numerals.{add-one}
use mathlib.Core.Path.{◌≡◌, refl, ap, ◌∙◌}
use mathlib.Core.Bool.{Bool, true, false}
use mathlib.Core.List.{List, [], ◌∷◌}
use lib.ListN.{length, take, drop, length-drop}
use lib.Seq.{take_all}
use lib.Dec.{eqb}
use Rattle.octets.specs.Pick.{pick}
use Rattle.words.specs.Words.{space, word_of, rest_of}

pub word-front : (s : List ℕ) → take (length (word_of s)) s ≡ word_of s
unfolding word_of pick
word-front [] = refl
word-front (x ∷ s) = by (eqb x space) (word-front s)
  where
    by : (b : Bool) → take (length (word_of s)) s ≡ word_of s → take (length (pick b [] (x ∷ word_of s))) (x ∷ s) ≡ pick b [] (x ∷ word_of s)
    by true h = refl
    by false h = ap (λ (l : List ℕ). x ∷ l) h

pub word-inside : (s : List ℕ) → length (word_of s) ≤ length s
unfolding word_of pick
word-inside [] = omega arith
word-inside (x ∷ s) = by (eqb x space) (word-inside s)
  where
    by : (b : Bool) → length (word_of s) ≤ length s → length (pick b [] (x ∷ word_of s)) ≤ suc (length s)
    by true h = omega arith
    by false h = omega arith

-- what `rest` answers
rest-is : (s : List ℕ) → length (word_of s) < length s → drop (suc (length (word_of s))) s ≡ rest_of s
unfolding word_of rest_of pick
rest-is [] h = absurd (omega arith)
rest-is (x ∷ s) h = by (eqb x space) (rest-is s) h
  where
    by : (b : Bool) → (length (word_of s) < length s → drop (suc (length (word_of s))) s ≡ rest_of s)
        → length (pick b [] (x ∷ word_of s)) < suc (length s) → drop (length (pick b [] (x ∷ word_of s))) s ≡ pick b s (rest_of s)
    by true r h = refl
    by false r h = r (omega arith)

pub rest-behind : (s : List ℕ) (n : ℕ) → n ≡ length (word_of s) → n < length s → take (length s - (n + 1)) (drop (n + 1) s) ≡ rest_of s
rest-behind s n e h =
    take_all (length s - (n + 1)) (drop (n + 1) s) (omega (arith, length-drop (n + 1) s))
    ∙ ap (λ (k : ℕ). drop k s) (add-one n ∙ ap suc e) ∙ rest-is s (omega (arith, e))

no_rest : (s : List ℕ) → length s ≤ length (word_of s) → [] ≡ rest_of s
unfolding word_of rest_of pick
no_rest [] h = refl
no_rest (x ∷ s) h = by (eqb x space) (no_rest s) h
  where
    by : (b : Bool) → (length s ≤ length (word_of s) → [] ≡ rest_of s) → suc (length s) ≤ length (pick b [] (x ∷ word_of s)) → [] ≡ pick b s
        (rest_of s)
    by true r h = absurd (omega arith)
    by false r h = r (omega arith)

pub rest-none : (s : List ℕ) (n : ℕ) → n ≡ length (word_of s) → length s ≤ n → [] ≡ rest_of s
rest-none s n e h = no_rest s (omega (arith, e))
