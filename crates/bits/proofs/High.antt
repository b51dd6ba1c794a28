-- Numbers and their bits, high bit first.
use mathlib.Core.Path.{◌≡◌, refl, sym, ap, ap₂, ◌∙◌, subst}
use mathlib.Core.Bool.{Bool}
use mathlib.Core.List.{List, [], ◌∷◌, ◌++◌, append_assoc}
use Prim.Native.Nat.{ℕ, ◌+◌, ◌*◌, ◌/◌, ◌%◌, ◌^◌, ◌<◌}
use native.Mathlib.Nat.{mod-lt, div-lt_iff_lt-mul}
use native.Mathlib.Omega.{arith}
use lib.ListN.{length, take, drop, length-append}
use lib.Seq.{take_at, drop_at}
use lib.Arith.{digits_lt}
use lib.Pow.{pow_pos, pow-add, high, low}
use Rattle.bits.specs.Rows.Order.{high_first}
use Rattle.bits.specs.Field.{high_bits, high_number, row_of, cut, laid, with_piece}
use Rattle.bits.proofs.Numbers as numbers

pub length-bits : (k n : ℕ) → length (high_bits k n) ≡ k
unfolding high_bits
length-bits k n = numbers.length-bits high_first k n

pub number-bits : (k n : ℕ) → n < 2 ^ k → high_number (high_bits k n) ≡ n
unfolding high_bits high_number
number-bits k n h = numbers.number-bits high_first k n h

pub bits-number : (k : ℕ) (bs : List Bool) → length bs ≡ k → high_bits k (high_number bs) ≡ bs
unfolding high_bits high_number
bits-number k bs e = numbers.bits-number high_first k bs e

pub number_lt : (bs : List Bool) → high_number bs < 2 ^ length bs
unfolding high_number
number_lt bs = numbers.number_lt high_first bs

pub bits-cut : (k n : ℕ) → high_bits k (n % 2 ^ k) ≡ high_bits k n
unfolding high_bits
bits-cut k n = numbers.bits-cut high_first k n

-- the high k bits and the low j
pub bits-high : (j k n : ℕ) → high_bits (j + k) n ≡ high_bits k (n / 2 ^ j) ++ high_bits j n
unfolding high_bits
bits-high j k n = numbers.bits-high j k n

-- the bits of octets
pub row-none : row_of [] ≡ []
unfolding row_of
row-none = refl

pub row_cons : (x : ℕ) (s : List ℕ) → row_of (x ∷ s) ≡ high_bits 8 x ++ row_of s
unfolding row_of high_bits
row_cons x s = refl

-- bits behind bits: the number of the first in units of 2 ^ m, and that of the others, which are m
pub bits_join : (k m a b : ℕ) → b < 2 ^ m → high_bits (m + k) (a * 2 ^ m + b) ≡ high_bits k a ++ high_bits m b
bits_join k m a b h =
    bits-high m k (a * 2 ^ m + b)
    ∙ ap₂ (λ (p q : List Bool). p ++ q) (ap (high_bits k) (high a m h)) (sym (bits-cut m (a * 2 ^ m + b)) ∙ ap (high_bits m) (low a m h))

pub number_append : (xs ys : List Bool) → high_number (xs ++ ys) ≡ high_number xs * 2 ^ length ys + high_number ys
number_append xs ys =
    ap high_number (sym (ap₂ (λ (p q : List Bool). p ++ q) (bits-number (length xs) xs refl) (bits-number (length ys) ys refl)))
    ∙ ap high_number (sym (bits_join (length xs) (length ys) (high_number xs) (high_number ys) (number_lt ys)))
    ∙ number-bits (length ys + length xs) (high_number xs * 2 ^ length ys + high_number ys) small
  where
    small : high_number xs * 2 ^ length ys + high_number ys < 2 ^ (length ys + length xs)
    small =
        subst (λ (n : ℕ). high_number xs * 2 ^ length ys + high_number ys < n)
        (sym (pow-add 2 (length xs) (length ys)) ∙ ap (λ (n : ℕ). 2 ^ n)
        (let e : length xs + length ys ≡ length ys + length xs = omega arith in e))
        (digits_lt (number_lt xs) (number_lt ys))

-- j bits, m behind them, and r behind those
module _ (j m r n : ℕ) where
  pub bits-three : high_bits (r + (m + j)) n ≡ high_bits j (n / 2 ^ r / 2 ^ m) ++ high_bits m (n / 2 ^ r) ++ high_bits r n
  bits-three = bits-high r (m + j) n ∙ ap (λ (p : List Bool). p ++ high_bits r n) (bits-high m j (n / 2 ^ r))

  head_long : length (high_bits j (n / 2 ^ r / 2 ^ m) ++ high_bits m (n / 2 ^ r)) ≡ j + m
  head_long =
      length-append (high_bits j (n / 2 ^ r / 2 ^ m)) (high_bits m (n / 2 ^ r)) ∙ ap₂ (λ (p q : ℕ). p + q) (length-bits j _) (length-bits m _)

  pub first-bits : take j (high_bits (r + (m + j)) n) ≡ high_bits j (n / 2 ^ r / 2 ^ m)
  first-bits =
      ap (take j) (bits-three ∙ append_assoc (high_bits j (n / 2 ^ r / 2 ^ m)) (high_bits m (n / 2 ^ r)) (high_bits r n))
      ∙ take_at (high_bits j (n / 2 ^ r / 2 ^ m)) (high_bits m (n / 2 ^ r) ++ high_bits r n) j (length-bits j _)

  pub middle_bits : cut j m (high_bits (r + (m + j)) n) ≡ high_bits m (n / 2 ^ r)
  middle_bits =
      ap (cut j m) (bits-three ∙ append_assoc (high_bits j (n / 2 ^ r / 2 ^ m)) (high_bits m (n / 2 ^ r)) (high_bits r n))
      ∙ ap (take m) (drop_at (high_bits j (n / 2 ^ r / 2 ^ m)) (high_bits m (n / 2 ^ r) ++ high_bits r n) j (length-bits j _))
      ∙ take_at (high_bits m (n / 2 ^ r)) (high_bits r n) m (length-bits m _)

  pub last-bits : drop (j + m) (high_bits (r + (m + j)) n) ≡ high_bits r n
  last-bits =
      ap (drop (j + m)) bits-three
      ∙ drop_at (high_bits j (n / 2 ^ r / 2 ^ m) ++ high_bits m (n / 2 ^ r)) (high_bits r n) (j + m) head_long

module _ (j m r v x : ℕ) (small : v < 2 ^ m) where
  below : x % 2 ^ r < 2 ^ r
  below = mod-lt x (pow_pos r)

  up : with_piece m r v x / 2 ^ r ≡ x / 2 ^ r / 2 ^ m * 2 ^ m + v
  up = high (x / 2 ^ r / 2 ^ m * 2 ^ m + v) r below

  pub bits_with : high_bits (r + (m + j)) (with_piece m r v x) ≡ laid (high_bits (r + (m + j)) x) j (high_bits m v)
  bits_with =
      bits-three j m r (with_piece m r v x)
      ∙ ap₂ (λ (p q : List Bool). p ++ q)
      (ap₂ (λ (p q : List Bool). p ++ q)
      (ap (high_bits j) (ap (λ (n : ℕ). n / 2 ^ m) up ∙ high (x / 2 ^ r / 2 ^ m) m small) ∙ sym (first-bits j m r x))
      (ap (high_bits m) up ∙ sym (bits-cut m (x / 2 ^ r / 2 ^ m * 2 ^ m + v)) ∙ ap (high_bits m) (low (x / 2 ^ r / 2 ^ m) m small)))
      (sym (bits-cut r (with_piece m r v x)) ∙ ap (high_bits r) (low (x / 2 ^ r / 2 ^ m * 2 ^ m + v) r below) ∙ bits-cut r x
      ∙ sym (ap (λ (k : ℕ). drop (j + k) (high_bits (r + (m + j)) x)) (length-bits m v) ∙ last-bits j m r x))

  pub with_lt : x < 2 ^ (r + (m + j)) → with_piece m r v x < 2 ^ (r + (m + j))
  with_lt l =
      subst (λ (n : ℕ). with_piece m r v x < n) (sym whole)
      (digits_lt (digits_lt (top (subst (λ (n : ℕ). x < n) whole l)) small) below)
    where
      whole : 2 ^ (r + (m + j)) ≡ 2 ^ j * 2 ^ m * 2 ^ r
      whole =
          ap (λ (n : ℕ). 2 ^ n) (let e : r + (m + j) ≡ j + m + r = omega arith in e) ∙ pow-add 2 (j + m) r
          ∙ ap (λ (n : ℕ). n * 2 ^ r) (pow-add 2 j m)

      top : x < 2 ^ j * 2 ^ m * 2 ^ r → x / 2 ^ r / 2 ^ m < 2 ^ j
      top k = (div-lt_iff_lt-mul (pow_pos m)).1 ((div-lt_iff_lt-mul (pow_pos r)).1 k)
