-- Laws of octets written as hexadecimal digits.
use Prim.Native.Nat.{ℕ, zero, suc, ◌+◌, ◌*◌, ◌/◌, ◌%◌, ◌≤◌, ◌<◌}
use native.Mathlib.Omega.{arith}
use native.Mathlib.Numerals.{add-one}
use native.Mathlib.Nat.{zero-add}
use mathlib.Core.Path.{◌≡◌, refl, sym, ap, ◌∙◌}
use mathlib.Core.Bool.{Bool, true, false, false≢true, not, ◌||◌}
use mathlib.Core.List.{List, [], ◌∷◌}
use lib.ListN.{length, set}
use lib.Seq.{paste, paste-suc, take-length}
use lib.Dec.{eqb, ltb}
use borrow.Author.Tests.{lt-ltb, le-ltb, eq-eqb, ne_eqb, ltb-false}
use Rattle.octets.specs.Numbers.{at}
use Rattle.octets.specs.Parts.{written}
use Rattle.octets.proofs.Choices.{picked, passed}
use Rattle.octets.proofs.Tests.{or_left, or_right}
use Rattle.words.specs.Words.{none}
use Rattle.words.specs.Octets.{digit_of, other_than_hex, octets_of, hex_wrong, hex_count, hex_left}

-- each octet of digits is one
pub digit_at : (s : List ℕ) (i : ℕ) → other_than_hex s ≡ false → i < length s → digit_of (at s i) ≤ 15
unfolding other_than_hex
digit_at [] i h l = absurd (omega arith)
digit_at (x ∷ s) zero h l = ltb-false _ _ (or_left (ltb 15 (digit_of x)) (other_than_hex s) h)
digit_at (x ∷ s) (suc i) h l = digit_at s i (or_right (ltb 15 (digit_of x)) (other_than_hex s) h) (omega arith)

pub many : (n : ℕ) (s : List ℕ) → length s ≡ 2 * n → length (octets_of s) ≡ n
unfolding octets_of
many zero [] h = refl
many (suc n) [] h = absurd (omega arith)
many n (x ∷ []) h = absurd (omega arith)
many zero (x ∷ y ∷ s) h = absurd (omega arith)
many (suc n) (x ∷ y ∷ s) h = ap suc (many n s (omega arith))

pub octet-at : (i n : ℕ) (s : List ℕ) → length s ≡ 2 * n → i < n → at (octets_of s) i ≡ digit_of (at s (2 * i)) * 16 + digit_of
    (at s (2 * i + 1))
unfolding octets_of
octet-at i n [] h l = absurd (omega arith)
octet-at i n (x ∷ []) h l = absurd (omega arith)
octet-at zero n (x ∷ y ∷ s) h l = refl
octet-at (suc i) zero (x ∷ y ∷ s) h l = absurd (omega arith)
octet-at (suc i) (suc n) (x ∷ y ∷ s) h l =
    let a : 2 * suc i ≡ suc (suc (2 * i)) = omega arith in
    let b : 2 * suc i + 1 ≡ suc (suc (2 * i + 1)) = omega arith in
    octet-at i n s (omega arith) (omega arith)
    ∙ sym (rw (b, a) refl)

-- one octet more is laid
pub laid_on : (d xs : List ℕ) (i v : ℕ) → v ≡ at xs i → i < length d → i < length xs → set (paste d 0 xs i) i v ≡ paste d 0 xs (i + 1)
laid_on d xs i v e h k =
    ap (λ (x : ℕ). set (paste d 0 xs i) i x) e
    ∙ ap (λ (j : ℕ). set (paste d 0 xs i) j (at xs i)) (sym (zero-add i))
    ∙ paste-suc d 0 xs i 0 (omega arith) k
    ∙ ap (paste d 0 xs) (sym (add-one i))

pub all_laid : (d s : List ℕ) (n i : ℕ) → length s ≡ 2 * n → i ≡ n → paste d 0 (octets_of s) i ≡ written (octets_of s) d
all_laid d s n i h e =
    let k : i ≡ length (octets_of s) = e ∙ sym (many n s h) in
    ap (paste d 0 (octets_of s)) k ∙ simp (take-length, zero-add)

-- what `hex` answers and leaves
refused : (s out : List ℕ) → hex_wrong s (length out) ≡ true → (none ≡ hex_count s (length out)) × (out ≡ hex_left s out)
unfolding hex_count hex_left
refused s out h = (picked _ _ _ h, picked _ _ _ h)

or_second : (a : Bool) {b : Bool} → b ≡ true → (a || b) ≡ true
or_second true h = refl
or_second false h = h

or_first : (a b : Bool) → a ≡ true → (a || b) ≡ true
or_first true b h = refl
or_first false b h = absurd (false≢true h)

module _ (s out : List ℕ) where
  pub odd : (length s % 2 ≡ 0 → ⊥) → (none ≡ hex_count s (length out)) × (out ≡ hex_left s out)
  unfolding hex_wrong
  odd h = refused s out (or_first (not (eqb (length s % 2) 0)) _ (ap not (ne_eqb _ _ h)))

  pub full : length out < length s / 2 → (none ≡ hex_count s (length out)) × (out ≡ hex_left s out)
  unfolding hex_wrong
  full h = refused s out (or_second (not (eqb (length s % 2) 0)) (or_first (ltb (length out) (length s / 2)) _ (lt-ltb _ _ h)))

  pub other : other_than_hex s ≡ true → (none ≡ hex_count s (length out)) × (out ≡ hex_left s out)
  unfolding hex_wrong
  other h = refused s out (or_second (not (eqb (length s % 2) 0)) (or_second (ltb (length out) (length s / 2)) h))

  pub hexed : length s % 2 ≡ 0 → length s / 2 ≤ length out → other_than_hex s ≡ false
      → {out' : List ℕ} → out' ≡ written (octets_of s) out
      → (length s / 2 ≡ hex_count s (length out)) × (out' ≡ hex_left s out)
  unfolding hex_wrong hex_count hex_left
  hexed e h o l =
      let right : hex_wrong s (length out) ≡ false = simp (eq-eqb _ _ e, le-ltb _ _ h, o) in
      (passed _ _ _ _ right refl, passed _ _ _ _ right l)
