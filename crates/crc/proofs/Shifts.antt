-- Maps of numbers that are sums of shifts, as a processor works them: they are linear.
use mathlib.Core.Path.{◌≡◌, refl, sym, ap, ap₂, ◌∙◌}
use mathlib.Core.List.{List, [], ◌∷◌}
use Prim.Native.Nat.{ℕ, zero, suc, ◌+◌, ◌*◌, ◌/◌, ◌%◌, ◌^◌, ◌<◌}
use native.Mathlib.Nat.{le_of_suc-le-suc, not-suc-le-zero, add-zero, mod-lt, mod-le, div-le_self, lt_of_le_of_lt}
use lib.Arith.{bin_ind}
use lib.Pow.{pow_pos}
use lib.Bits.{bit_xor, differ, xor_step, xor_comm, xor_lt, xor_shr, xor_mod, xor_block}
use Rattle.bits.proofs.Numbers.{two}

-- ---- the sum of numbers is associative

xor_small : (x y : ℕ) → x < 2 → y < 2 → bit_xor x y ≡ differ x y
xor_small zero y h k = refl
xor_small (suc zero) zero h k = refl
xor_small (suc zero) (suc zero) h k = refl
xor_small (suc zero) (suc (suc y)) h k = absurd (not-suc-le-zero (le_of_suc-le-suc (le_of_suc-le-suc k)))
xor_small (suc (suc x)) y h k = absurd (not-suc-le-zero (le_of_suc-le-suc (le_of_suc-le-suc h)))

differ_assoc : (x y z : ℕ) → x < 2 → y < 2 → z < 2 → differ (differ x y) z ≡ differ x (differ y z)
differ_assoc zero y z h k l = refl
differ_assoc (suc zero) zero z h k l = refl
differ_assoc (suc zero) (suc zero) zero h k l = refl
differ_assoc (suc zero) (suc zero) (suc zero) h k l = refl
differ_assoc (suc zero) (suc zero) (suc (suc z)) h k l = absurd (not-suc-le-zero (le_of_suc-le-suc (le_of_suc-le-suc l)))
differ_assoc (suc zero) (suc (suc y)) z h k l = absurd (not-suc-le-zero (le_of_suc-le-suc (le_of_suc-le-suc k)))
differ_assoc (suc (suc x)) y z h k l = absurd (not-suc-le-zero (le_of_suc-le-suc (le_of_suc-le-suc h)))

xor_low : (a b : ℕ) → bit_xor a b % 2 ≡ differ (a % 2) (b % 2)
xor_low a b = xor_mod a b 1 ∙ xor_small (a % 2) (b % 2) (mod-lt a two) (mod-lt b two)

xor_assoc : (a b c : ℕ) → bit_xor (bit_xor a b) c ≡ bit_xor a (bit_xor b c)
xor_assoc =
    bin_ind (λ (n : ℕ). (b c : ℕ) → bit_xor (bit_xor n b) c ≡ bit_xor n (bit_xor b c)) (λ b c. refl)
    (λ n more b c.
    xor_step (bit_xor n b) c
    ∙ ap₂ (λ (q r : ℕ). q * 2 + r)
    (ap (λ (q : ℕ). bit_xor q (c / 2)) (xor_shr n b 1) ∙ more (b / 2) (c / 2) ∙ ap (bit_xor (n / 2)) (sym (xor_shr b c 1)))
    (ap (λ (x : ℕ). differ x (c % 2)) (xor_low n b)
    ∙ differ_assoc (n % 2) (b % 2) (c % 2) (mod-lt n two) (mod-lt b two) (mod-lt c two)
    ∙ ap (differ (n % 2)) (sym (xor_low b c)))
    ∙ sym (xor_step n (bit_xor b c)))

xor_swap : (a b c d : ℕ) → bit_xor (bit_xor a b) (bit_xor c d) ≡ bit_xor (bit_xor a c) (bit_xor b d)
xor_swap a b c d =
    xor_assoc a b (bit_xor c d)
    ∙ ap (bit_xor a) (sym (xor_assoc b c d) ∙ ap (λ (x : ℕ). bit_xor x d) (xor_comm b c) ∙ xor_assoc c b d)
    ∙ sym (xor_assoc a c (bit_xor b d))

pub xor_left : (k a b : ℕ) → bit_xor a b * 2 ^ k ≡ bit_xor (a * 2 ^ k) (b * 2 ^ k)
xor_left k a b = sym (simp add-zero at (xor_block k a b 0 0 (pow_pos k) (pow_pos k)))

-- ---- the maps

-- of a number: itself, its shift by k to the left, in w bits, or to the right, and its k low bits
pub data Part : Type 0 where
  itself : Part
  left : ℕ → Part
  right : ℕ → Part
  low : ℕ → Part

abbrev part : ℕ → Part → ℕ → ℕ
part w itself n = n
part w (left k) n = n * 2 ^ k % 2 ^ w
part w (right k) n = n / 2 ^ k
part w (low k) n = n % 2 ^ k

-- parts of n added to s
abbrev added : ℕ → List Part → ℕ → ℕ → ℕ
added w [] s n = s
added w (p ∷ ps) s n = added w ps (bit_xor s (part w p n)) n

-- the sum of a number's parts
abbrev sum : ℕ → List Part → ℕ → ℕ
sum w [] n = 0
sum w (p ∷ ps) n = added w ps (part w p n) n

-- one sum after the other
abbrev pub sums : ℕ → List (List Part) → ℕ → ℕ
sums w [] n = n
sums w (ps ∷ more) n = sums w more (sum w ps n)

abbrev Additive : (ℕ → ℕ) → Type 0
Additive f = (a b : ℕ) → f (bit_xor a b) ≡ bit_xor (f a) (f b)

part_linear : (w : ℕ) (p : Part) → Additive (part w p)
part_linear w itself a b = refl
part_linear w (left k) a b = ap (λ (n : ℕ). n % 2 ^ w) (xor_left k a b) ∙ xor_mod (a * 2 ^ k) (b * 2 ^ k) w
part_linear w (right k) a b = xor_shr a b k
part_linear w (low k) a b = xor_mod a b k

added_linear : (w : ℕ) (ps : List Part) (f : ℕ → ℕ) → Additive f → Additive (λ n. added w ps (f n) n)
added_linear w [] f l = l
added_linear w (p ∷ ps) f l =
    added_linear w ps (λ n. bit_xor (f n) (part w p n))
    (λ a b. ap₂ bit_xor (l a b) (part_linear w p a b) ∙ xor_swap (f a) (f b) (part w p a) (part w p b))

sum_linear : (w : ℕ) (ps : List Part) → Additive (sum w ps)
sum_linear w [] = λ a b. refl
sum_linear w (p ∷ ps) = added_linear w ps (part w p) (part_linear w p)

pub sums_linear : (w : ℕ) (pss : List (List Part)) → Additive (sums w pss)
sums_linear w [] a b = refl
sums_linear w (ps ∷ more) a b = ap (sums w more) (sum_linear w ps a b) ∙ sums_linear w more (sum w ps a) (sum w ps b)

-- they stay w bits wide
part-lt : (w : ℕ) (p : Part) (n : ℕ) → n < 2 ^ w → part w p n < 2 ^ w
part-lt w itself n h = h
part-lt w (left k) n h = mod-lt (n * 2 ^ k) (pow_pos w)
part-lt w (right k) n h = lt_of_le_of_lt (div-le_self n (2 ^ k)) h
part-lt w (low k) n h = lt_of_le_of_lt (mod-le n (2 ^ k)) h

added-lt : (w : ℕ) (ps : List Part) (s n : ℕ) → s < 2 ^ w → n < 2 ^ w → added w ps s n < 2 ^ w
added-lt w [] s n k h = k
added-lt w (p ∷ ps) s n k h = added-lt w ps (bit_xor s (part w p n)) n (xor_lt w s (part w p n) k (part-lt w p n h)) h

sum_lt : (w : ℕ) (ps : List Part) (n : ℕ) → n < 2 ^ w → sum w ps n < 2 ^ w
sum_lt w [] n h = pow_pos w
sum_lt w (p ∷ ps) n h = added-lt w ps (part w p n) n (part-lt w p n h) h

pub sums_lt : (w : ℕ) (pss : List (List Part)) (n : ℕ) → n < 2 ^ w → sums w pss n < 2 ^ w
sums_lt w [] n h = h
sums_lt w (ps ∷ more) n h = sums_lt w more (sum w ps n) (sum_lt w ps n h)
