-- Numbers and their rows of bits, in either order.
use mathlib.Core.Path.{◌≡◌, refl, sym, ap, ap₂, ◌∙◌, subst}
use mathlib.Core.Bool.{Bool, true, false}
use mathlib.Core.List.{List, [], ◌∷◌, ◌++◌, reverse, reverse-append, reverse-reverse, reverse-cons}
use Prim.Native.Nat.{ℕ, zero, suc, ◌+◌, ◌*◌, ◌/◌, ◌%◌, ◌^◌, ◌<◌}
use native.Mathlib.Nat.{suc_inj, suc-ne-zero, le_of_suc-le-suc, not-suc-le-zero, mod-lt, zero-lt-suc, suc-add, zero-add, div-add-mod'}
use native.Mathlib.Nat.{div-one, le_refl, pow-suc, mul-mod_left, mul-div_cancel}
use native.Mathlib.Numerals.{add-one}
use lib.ListN.{length, length-reverse}
use lib.Dec.{eqb}
use lib.Arith.{digits_lt, digits_div, digits_mod, lt-one}
use lib.Pow.{pow_pos, shr_lt, shr-shr, field, mod-mod-pow}
use lib.Bits.{bit_xor, xor_shr, xor_mod}
use Rattle.bits.specs.Rows.{◌⊕◌, plus, zeros, Order, ordered, odd, digit, digits_of, value_of, bits_of, number_of}
use Rattle.bits.specs.Rows.Order.{high_first, low_first}
use Rattle.bits.proofs.Rows.{plus-append}

pub two : zero < 2
two = zero-lt-suc 1

-- ---- the order

pub ordered_twice : (o : Order) (bs : List Bool) → ordered o (ordered o bs) ≡ bs
ordered_twice high_first bs = reverse-reverse bs
ordered_twice low_first bs = refl

pub length-ordered : (o : Order) (bs : List Bool) → length (ordered o bs) ≡ length bs
length-ordered high_first bs = length-reverse bs
length-ordered low_first bs = refl

reverse_plus : (xs ys : List Bool) → length xs ≡ length ys → reverse (plus xs ys) ≡ plus (reverse xs) (reverse ys)
reverse_plus [] [] e = refl
reverse_plus [] (y ∷ ys) e = absurd (suc-ne-zero (length ys) (sym e))
reverse_plus (x ∷ xs) [] e = absurd (suc-ne-zero (length xs) e)
reverse_plus (x ∷ xs) (y ∷ ys) e =
    reverse-cons (x ⊕ y) (plus xs ys)
    ∙ ap (λ (r : List Bool). r ++ ((x ⊕ y) ∷ [])) (reverse_plus xs ys (suc_inj e))
    ∙ sym (plus-append (reverse xs) (reverse ys) (x ∷ []) (y ∷ []) (length-reverse xs ∙ suc_inj e ∙ sym (length-reverse ys)))
    ∙ ap₂ plus (sym (reverse-cons x xs)) (sym (reverse-cons y ys))

pub ordered-plus : (o : Order) (xs ys : List Bool) → length xs ≡ length ys → ordered o (plus xs ys) ≡ plus (ordered o xs) (ordered o ys)
ordered-plus high_first xs ys e = reverse_plus xs ys e
ordered-plus low_first xs ys e = refl

-- ---- a number's digits

pub odd-digit : (x : ℕ) → x < 2 → digit (eqb x 1) ≡ x
odd-digit zero h = refl
odd-digit (suc zero) h = refl
odd-digit (suc (suc x)) h = absurd (not-suc-le-zero (le_of_suc-le-suc (le_of_suc-le-suc h)))

pub digit_lt : (b : Bool) → digit b < 2
digit_lt false = two
digit_lt true = le_refl 2

pub digit-odd : (b : Bool) → eqb (digit b) 1 ≡ b
digit-odd false = refl
digit-odd true = refl

differs : (x y : ℕ) → x < 2 → y < 2 → eqb (bit_xor x y) 1 ≡ eqb x 1 ⊕ eqb y 1
differs zero y h k = refl
differs (suc zero) zero h k = refl
differs (suc zero) (suc zero) h k = refl
differs (suc zero) (suc (suc y)) h k = absurd (not-suc-le-zero (le_of_suc-le-suc (le_of_suc-le-suc k)))
differs (suc (suc x)) y h k = absurd (not-suc-le-zero (le_of_suc-le-suc (le_of_suc-le-suc h)))

pub length_digits : (k n : ℕ) → length (digits_of k n) ≡ k
length_digits zero n = refl
length_digits (suc k) n = ap suc (length_digits k (n / 2))

pub digits_xor : (k a b : ℕ) → digits_of k (bit_xor a b) ≡ plus (digits_of k a) (digits_of k b)
digits_xor zero a b = refl
digits_xor (suc k) a b =
    ap₂ {C = List Bool} (λ x xs. x ∷ xs)
    (ap (λ (x : ℕ). eqb x 1) (xor_mod a b 1) ∙ differs (a % 2) (b % 2) (mod-lt a two) (mod-lt b two))
    (ap (digits_of k) (xor_shr a b 1) ∙ digits_xor k (a / 2) (b / 2))

pub digits_append : (j k n : ℕ) → digits_of (j + k) n ≡ digits_of j n ++ digits_of k (n / 2 ^ j)
digits_append zero k n = ap₂ digits_of (zero-add k) (sym (div-one n))
digits_append (suc j) k n =
    ap (λ (m : ℕ). digits_of m n) (suc-add j k)
    ∙ ap (λ (r : List Bool). odd n ∷ r)
    (digits_append j k (n / 2)
    ∙ ap (λ (m : ℕ). digits_of j (n / 2) ++ digits_of k m) (shr-shr n 1 j ∙ ap (λ (m : ℕ). n / 2 ^ m) (one_more j)))
  where
    one_more : (j : ℕ) → 1 + j ≡ suc j
    one_more j = suc-add 0 j ∙ ap suc (zero-add j)

pub digits_cut : (j n : ℕ) → digits_of j (n % 2 ^ j) ≡ digits_of j n
digits_cut zero n = refl
digits_cut (suc j) n =
    ap (λ (m : ℕ). digits_of (suc j) (n % 2 ^ m)) (sym (add-one j))
    ∙ ap₂ {C = List Bool} (λ x xs. x ∷ xs)
    (ap (λ (x : ℕ). eqb x 1) (mod-mod-pow n j 1))
    (ap (digits_of j) (field n j 1) ∙ digits_cut j (n / 2))

pub digits_zero : (k : ℕ) → digits_of k 0 ≡ zeros k
digits_zero zero = refl
digits_zero (suc k) = ap (λ (r : List Bool). false ∷ r) (digits_zero k)

-- of a number that has k digits at most
pub digits_small : (k m n : ℕ) → n < 2 ^ k → digits_of (k + m) n ≡ digits_of k n ++ zeros m
digits_small k m n h =
    digits_append k m n
    ∙ ap (λ (r : List Bool). digits_of k n ++ r)
    (ap (digits_of m) (lt-one (shr_lt 0 k (subst (λ (i : ℕ). n < 2 ^ i) (sym (zero-add k)) h))) ∙ digits_zero m)

-- of a number shifted to the left by j
pub digits_left : (j k n : ℕ) → digits_of (j + k) (n * 2 ^ j % 2 ^ (j + k)) ≡ zeros j ++ digits_of k n
digits_left j k n =
    digits_cut (j + k) (n * 2 ^ j) ∙ digits_append j k (n * 2 ^ j)
    ∙ ap₂ (λ (p q : List Bool). p ++ q)
    (sym (digits_cut j (n * 2 ^ j)) ∙ ap (digits_of j) (mul-mod_left n (2 ^ j)) ∙ digits_zero j)
    (ap (digits_of k) (mul-div_cancel n (pow_pos j)))

-- there and back

pub value_digits : (k n : ℕ) → n < 2 ^ k → value_of (digits_of k n) ≡ n
value_digits zero n h = sym (lt-one h)
value_digits (suc k) n h =
    ap₂ (λ (q r : ℕ). q * 2 + r)
    (value_digits k (n / 2) (shr_lt k 1 (subst (λ (m : ℕ). n < 2 ^ m) (sym (add-one k)) h)))
    (odd-digit (n % 2) (mod-lt n two))
    ∙ div-add-mod' n 2

pub digits_value : (bs : List Bool) → digits_of (length bs) (value_of bs) ≡ bs
digits_value [] = refl
digits_value (b ∷ bs) =
    ap₂ {C = List Bool} (λ x xs. x ∷ xs)
    (ap (λ (x : ℕ). eqb x 1) (digits_mod (value_of bs) (digit_lt b)) ∙ digit-odd b)
    (ap (digits_of (length bs)) (digits_div (value_of bs) (digit_lt b)) ∙ digits_value bs)

pub value-lt : (bs : List Bool) → value_of bs < 2 ^ length bs
value-lt [] = le_refl 1
value-lt (b ∷ bs) =
    subst (λ (m : ℕ). value_of (b ∷ bs) < m) (sym (pow-suc 2 (length bs))) (digits_lt (value-lt bs) (digit_lt b))

-- ---- the same, in either order

module _ (o : Order) where
  pub length-bits : (k n : ℕ) → length (bits_of o k n) ≡ k
  length-bits k n = length-ordered o (digits_of k n) ∙ length_digits k n

  pub bits_xor : (k a b : ℕ) → bits_of o k (bit_xor a b) ≡ plus (bits_of o k a) (bits_of o k b)
  bits_xor k a b =
      ap (ordered o) (digits_xor k a b) ∙ ordered-plus o (digits_of k a) (digits_of k b) (length_digits k a ∙ sym (length_digits k b))

  pub number-bits : (k n : ℕ) → n < 2 ^ k → number_of o (bits_of o k n) ≡ n
  number-bits k n h = ap value_of (ordered_twice o (digits_of k n)) ∙ value_digits k n h

  pub bits-number : (k : ℕ) (bs : List Bool) → length bs ≡ k → bits_of o k (number_of o bs) ≡ bs
  bits-number k bs e =
      ap (λ (m : ℕ). bits_of o m (number_of o bs)) (sym (length-ordered o bs ∙ e))
      ∙ ap (ordered o) (digits_value (ordered o bs)) ∙ ordered_twice o bs

  pub number_lt : (bs : List Bool) → number_of o bs < 2 ^ length bs
  number_lt bs = subst (λ (m : ℕ). number_of o bs < 2 ^ m) (length-ordered o bs) (value-lt (ordered o bs))

  pub bits-cut : (k n : ℕ) → bits_of o k (n % 2 ^ k) ≡ bits_of o k n
  bits-cut k n = ap (ordered o) (digits_cut k n)

-- the bits of a number of j + k digits: its j low ones and the others, the high ones first or last
pub bits-high : (j k n : ℕ) → bits_of high_first (j + k) n ≡ bits_of high_first k (n / 2 ^ j) ++ bits_of high_first j n
bits-high j k n = ap reverse (digits_append j k n) ∙ reverse-append (digits_of j n) (digits_of k (n / 2 ^ j))

pub bits-low : (j k n : ℕ) → bits_of low_first (j + k) n ≡ bits_of low_first j n ++ bits_of low_first k (n / 2 ^ j)
bits-low = digits_append
