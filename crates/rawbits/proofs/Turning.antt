-- An octet's bits, the top one first, as the loop takes them.
use Prim.Native.Nat.{ℕ, zero, suc, ◌+◌, ◌*◌, ◌/◌, ◌%◌, ◌^◌, ◌≤◌, ◌<◌}
use mathlib.Core.Path.{◌≡◌, refl, sym, ap, ◌∙◌}
use mathlib.Core.Bool.{Bool, true, false}
use mathlib.Core.List.{List, ◌∷◌, foldl}
use native.Mathlib.Omega.{arith}
use native.Mathlib.Nat.{pow-suc}
use native.Mathlib.Numerals.{add-one}
use lib.ListN.{length, drop}
use lib.Dec.{leb, eqb}
use borrow.Author.Tests.{leb-true, leb-false, eq-eqb, ne_eqb}
use Rattle.bits.specs.Rows.{odd, bits_of}
use Rattle.bits.specs.Rows.Order.{high_first}
use Rattle.stretch.specs.declared.Found.{Found}
use Rattle.stretch.specs.declared.Found.TheVariants.{Nothing}
use Rattle.rawbits.specs.Reader.{Standing, Passing, passed, octet_passed}

-- the octet with its first i bits gone
abbrev pub shifted : ℕ → ℕ → ℕ
shifted x i = x * 2 ^ i % 256

shift_more : (x i : ℕ) → shifted x i % 128 * 2 ≡ shifted x (i + 1)
shift_more x i =
    let e : x * 2 ^ i % 256 % 128 * 2 ≡ x * 2 ^ i * 2 % 256 = omega arith in
    e ∙ ap (λ (n : ℕ). n % 256) (let d : x * 2 ^ i * 2 ≡ x * (2 ^ i * 2) = omega arith in d ∙ ap (λ (n : ℕ). x * n)
    (sym (ap (λ (k : ℕ). 2 ^ k) (add-one i) ∙ pow-suc 2 i)))

top-odd : (r q : ℕ) → (128 ≤ r → q % 2 ≡ 1) → (r < 128 → q % 2 ≡ 0) → leb 128 r ≡ eqb (q % 2) 1
top-odd r q f g = go (leb 128 r) refl
  where
    go : (t : Bool) → leb 128 r ≡ t → t ≡ eqb (q % 2) 1
    go true e = sym (eq-eqb (q % 2) 1 (f (leb-true _ _ e)))
    go false e = sym (ne_eqb (q % 2) 1 (λ z. omega (arith, g (leb-false _ _ e))))

one_bit : (x i q : ℕ) → (128 ≤ shifted x i → q % 2 ≡ 1) → (shifted x i < 128 → q % 2 ≡ 0)
    → ◌≡◌ {A = List Bool} (odd q ∷ drop (i + 1) (bits_of high_first 8 x)) (leb 128 (shifted x i) ∷ drop (i + 1) (bits_of high_first 8 x))
one_bit x i q f g = ap (λ (b : Bool). b ∷ drop (i + 1) (bits_of high_first 8 x)) (sym (top-odd (shifted x i) q f g))

top_bit : (x i : ℕ) → x < 256 → i < 8 → drop i (bits_of high_first 8 x) ≡ leb 128 (shifted x i) ∷ drop (i + 1) (bits_of high_first 8 x)
top_bit x zero h l = one_bit x 0 (x / 2 / 2 / 2 / 2 / 2 / 2 / 2) (λ k. omega arith) (λ k. omega arith)
top_bit x (suc zero) h l = one_bit x 1 (x / 2 / 2 / 2 / 2 / 2 / 2) (λ k. omega arith) (λ k. omega arith)
top_bit x (suc (suc zero)) h l = one_bit x 2 (x / 2 / 2 / 2 / 2 / 2) (λ k. omega arith) (λ k. omega arith)
top_bit x (suc (suc (suc zero))) h l = one_bit x 3 (x / 2 / 2 / 2 / 2) (λ k. omega arith) (λ k. omega arith)
top_bit x (suc (suc (suc (suc zero)))) h l = one_bit x 4 (x / 2 / 2 / 2) (λ k. omega arith) (λ k. omega arith)
top_bit x (suc (suc (suc (suc (suc zero))))) h l = one_bit x 5 (x / 2 / 2) (λ k. omega arith) (λ k. omega arith)
top_bit x (suc (suc (suc (suc (suc (suc zero)))))) h l = one_bit x 6 (x / 2) (λ k. omega arith) (λ k. omega arith)
top_bit x (suc (suc (suc (suc (suc (suc (suc zero))))))) h l = one_bit x 7 (x) (λ k. omega arith) (λ k. omega arith)
top_bit x (suc (suc (suc (suc (suc (suc (suc (suc i)))))))) h l = absurd (omega arith)

-- ---- the loop: the bits that are left lead to the same end

pub record Turns (a : Standing) (x : ℕ) (s : Standing) (f : Found) (rest i : ℕ) : Type 0 where
  pub few : i ≤ 8
  pub gone : rest ≡ shifted x i
  pub long : length s.kept ≡ length a.kept
  pub same : foldl passed (record { standing = s; found = f }) (drop i (bits_of high_first 8 x)) ≡ octet_passed a x

pub turns-first : (a : Standing) (x : ℕ) → x < 256 → Turns a x a Nothing x 0
unfolding octet_passed
turns-first a x h = record { few = omega arith; gone = omega arith; long = refl; same = refl }

module _ {a : Standing} {x : ℕ} {s : Standing} {f : Found} {rest i : ℕ} (t : Turns a x s f rest i) where
  pub turns_next : x < 256 → i < 8 → {s' : Standing} {f' : Found} → length s'.kept ≡ length s.kept
      → record { standing = s'; found = f' } ≡ passed (record { standing = s; found = f }) (leb 128 rest) → Turns a x s' f' (rest % 128 * 2)
      (i + 1)
  turns_next h l n e =
      record {
        few = omega arith;
        gone = ap (λ (n : ℕ). n % 128 * 2) t.gone ∙ shift_more x i;
        long = n ∙ t.long;
        same =
            ap (λ (p : Passing). foldl passed p (drop (i + 1) (bits_of high_first 8 x)))
            (e ∙ ap (λ (n : ℕ). passed (record { standing = s; found = f }) (leb 128 n)) t.gone)
            ∙ sym (ap (foldl passed (record { standing = s; found = f })) (top_bit x i h l)) ∙ t.same;
      }

  pub turns-end : 8 ≤ i → record { standing = s; found = f } ≡ octet_passed a x
  turns-end l =
      ap (λ (k : ℕ). foldl passed (record { standing = s; found = f }) (drop k (bits_of high_first 8 x)))
      (let e : 8 ≡ i = omega (arith, t.few) in e) ∙ t.same
