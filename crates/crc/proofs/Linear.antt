-- Linear maps of numbers into rows of bits: two of them are the same if they are at 0 and at the powers of 2.
use mathlib.Core.Path.{◌≡◌, refl, sym, ap, ap₂, ◌∙◌, subst}
use mathlib.Core.Bool.{Bool, true, false, false≢true, ◌&&◌}
use mathlib.Core.List.{List, [], ◌∷◌}
use Prim.Native.Nat.{ℕ, zero, suc, ◌*◌, ◌/◌, ◌%◌, ◌^◌, ◌<◌}
use native.Mathlib.Nat.{le_of_suc-le-suc, not-suc-le-zero, mod-lt, div-add-mod'}
use native.Mathlib.Numerals.{add-one}
use lib.Arith.{lt-one}
use lib.Pow.{shr_lt}
use lib.Bits.{bit_xor, xor_shifted}
use Rattle.bits.specs.Rows.{plus}
use Rattle.bits.proofs.Numbers.{two}
use Rattle.crc.proofs.Shifts.{Part, sums, sums_linear, xor_left}
use Rattle.octets.proofs.Tests.{and_true_left, and_true_right}

abbrev pub Linear : (ℕ → List Bool) → Type 0
Linear f = (a b : ℕ) → f (bit_xor a b) ≡ plus (f a) (f b)

pub then_linear : (f : ℕ → List Bool) → Linear f → (w : ℕ) (pss : List (List Part)) → Linear (λ n. f (sums w pss n))
then_linear f l w pss a b = ap f (sums_linear w pss a b) ∙ l (sums w pss a) (sums w pss b)

abbrev same : List Bool → List Bool → Bool
same [] [] = true
same [] (y ∷ ys) = false
same (x ∷ xs) [] = false
same (true ∷ xs) (true ∷ ys) = same xs ys
same (true ∷ xs) (false ∷ ys) = false
same (false ∷ xs) (true ∷ ys) = false
same (false ∷ xs) (false ∷ ys) = same xs ys

same_rows : (xs ys : List Bool) → same xs ys ≡ true → xs ≡ ys
same_rows [] [] t = refl
same_rows [] (y ∷ ys) t = absurd (false≢true t)
same_rows (x ∷ xs) [] t = absurd (false≢true t)
same_rows (true ∷ xs) (true ∷ ys) t = ap (λ (r : List Bool). true ∷ r) (same_rows xs ys t)
same_rows (true ∷ xs) (false ∷ ys) t = absurd (false≢true t)
same_rows (false ∷ xs) (true ∷ ys) t = absurd (false≢true t)
same_rows (false ∷ xs) (false ∷ ys) t = ap (λ (r : List Bool). false ∷ r) (same_rows xs ys t)

-- the test: f and g are the same at the first k powers of 2
abbrev agree : (ℕ → List Bool) → (ℕ → List Bool) → ℕ → Bool
agree f g zero = true
agree f g (suc k) = same (f 1) (g 1) && agree (λ n. f (n * 2)) (λ n. g (n * 2)) k

pub agreed : (f g : ℕ → List Bool) → Linear f → Linear g → f 0 ≡ g 0
    → (k : ℕ) → agree f g k ≡ true → (n : ℕ) → n < 2 ^ k → f n ≡ g n
agreed f g l m e zero t n h = ap f (lt-one h) ∙ e ∙ ap g (sym (lt-one h))
agreed f g l m e (suc k) t n h =
    ap f (sym halves) ∙ l (n / 2 * 2) (n % 2)
    ∙ ap₂ plus
    (agreed (λ i. f (i * 2)) (λ i. g (i * 2)) (doubled f l) (doubled g m) e k (and_true_right (same (f 1) (g 1)) _ t) (n / 2)
    (shr_lt k 1 (subst (λ (i : ℕ). n < 2 ^ i) (sym (add-one k)) h)))
    (bit (n % 2) (mod-lt n two))
    ∙ sym (m (n / 2 * 2) (n % 2)) ∙ ap g halves
  where
    halves : bit_xor (n / 2 * 2) (n % 2) ≡ n
    halves = xor_shifted (n / 2) 1 (n % 2) (mod-lt n two) ∙ div-add-mod' n 2

    doubled : (h : ℕ → List Bool) → Linear h → Linear (λ i. h (i * 2))
    doubled h l a b = ap h (xor_left 1 a b) ∙ l (a * 2) (b * 2)

    bit : (x : ℕ) → x < 2 → f x ≡ g x
    bit zero h = e
    bit (suc zero) h = same_rows (f 1) (g 1) (and_true_left (same (f 1) (g 1)) _ t)
    bit (suc (suc x)) h = absurd (not-suc-le-zero (le_of_suc-le-suc (le_of_suc-le-suc h)))
