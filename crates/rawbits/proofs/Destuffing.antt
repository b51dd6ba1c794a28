-- Destuffing, and being abandoned, from the left.
use Prim.Native.Nat.{ℕ, zero, suc, ◌+◌, ◌≤◌, ◌<◌}
use mathlib.Core.Path.{◌≡◌, refl, sym, ap, ap₂, ◌∙◌, subst}
use mathlib.Core.Bool.{Bool, true, false, ◌||◌, cond, true≢false}
use mathlib.Core.List.{List, [], ◌∷◌, ◌++◌, append_assoc, append-nil}
use native.Mathlib.Omega.{arith}
use lib.ListN.{length, length-append}
use lib.Dec.{eqb}
use borrow.Author.Tests.{eqb-true}
use Rattle.bits.specs.Rows.{ones}
use Rattle.rawbits.specs.Recording.{begins, contains, abandoned, destuffed}
use Rattle.rawbits.proofs.Pieces.{ones-snoc}

-- how many 1s in a row a row ends with, where k stand before it
abbrev pub run_after : ℕ → List Bool → ℕ
run_after k [] = k
run_after k (true ∷ s) = run_after (suc k) s
run_after k (false ∷ s) = run_after 0 s

pub run-append : (k : ℕ) (s r : List Bool) → run_after k (s ++ r) ≡ run_after (run_after k s) r
run-append k [] r = refl
run-append k (true ∷ s) r = run-append (suc k) s r
run-append k (false ∷ s) r = run-append 0 s r

pub run-ones : (j k : ℕ) → run_after j (ones k) ≡ j + k
run-ones j zero = omega arith
run-ones j (suc k) = run-ones (suc j) k ∙ (omega arith)

pub run_led : (q : List Bool) (k : ℕ) → run_after 0 (q ++ false ∷ ones k) ≡ k
run_led q k = run-append 0 q (false ∷ ones k) ∙ run-ones 0 k ∙ (omega arith)

pub destuffed-append : (k : ℕ) (s r : List Bool) → destuffed k (s ++ r) ≡ destuffed k s ++ destuffed (run_after k s) r
destuffed-append k [] r = refl
destuffed-append k (true ∷ s) r = ap (λ (q : List Bool). true ∷ q) (destuffed-append (suc k) s r)
destuffed-append k (false ∷ s) r = go (eqb k 5) (destuffed 0 (s ++ r)) (destuffed 0 s) (destuffed (run_after 0 s) r) (destuffed-append 0 s r)
  where
    go : (t : Bool) (x y z : List Bool) → x ≡ y ++ z → cond t x (false ∷ x) ≡ cond t y (false ∷ y) ++ z
    go true x y z e = e
    go false x y z e = ap (λ (q : List Bool). false ∷ q) e

pub destuffed-ones : (j k : ℕ) → destuffed j (ones k) ≡ ones k
destuffed-ones j zero = refl
destuffed-ones j (suc k) = ap (λ (q : List Bool). true ∷ q) (destuffed-ones (suc j) k)

-- one bit more
pub destuffed-one : (q : List Bool) → destuffed 0 (q ++ true ∷ []) ≡ destuffed 0 q ++ true ∷ []
destuffed-one q = destuffed-append 0 q (true ∷ [])

pub destuffed-zero : (q : List Bool) (k : ℕ) → run_after 0 q ≡ k → destuffed 0 (q ++ false ∷ []) ≡ cond (eqb k 5) (destuffed 0 q)
    (destuffed 0 q ++ false ∷ [])
destuffed-zero q k e = destuffed-append 0 q (false ∷ []) ∙ ap (λ (j : ℕ). destuffed 0 q ++ cond (eqb j 5) [] (false ∷ [])) e ∙ go (eqb k 5)
  where
    go : (t : Bool) → destuffed 0 q ++ cond t [] (false ∷ []) ≡ cond t (destuffed 0 q) (destuffed 0 q ++ false ∷ [])
    go true = append-nil (destuffed 0 q)
    go false = refl

-- behind a 0, one 1 more
pub led_more : (q : List Bool) (k : ℕ) → q ++ false ∷ ones (suc k) ≡ (q ++ false ∷ ones k) ++ true ∷ []
led_more q k = ap (λ (r : List Bool). q ++ false ∷ r) (ones-snoc k) ∙ sym (append_assoc q (false ∷ ones k) (true ∷ []))

-- ---- how many bits are left

run-le : (j : ℕ) (q : List Bool) → run_after j q ≤ j + length (destuffed j q)
run-le j [] = omega arith
run-le j (true ∷ q) = omega (arith, run-le (suc j) q)
run-le j (false ∷ q) = go (eqb j 5) (run-le 0 q)
  where
    go : (t : Bool) → run_after 0 q ≤ 0 + length (destuffed 0 q) → run_after 0 q ≤ j + length (cond t (destuffed 0 q) (false ∷ destuffed 0 q))
    go true h = omega arith
    go false h = omega arith

-- the 0 before the last 1s is left, or five 1s before it
pub led_long : (q : List Bool) (k : ℕ) → k < length (destuffed 0 (q ++ false ∷ ones k))
led_long q k = subst (λ (s : List Bool). k < length s) (sym (destuffed-append 0 q (false ∷ ones k))) (go (eqb (run_after 0 q) 5) refl)
  where
    long : length (destuffed 0 (ones k)) ≡ k
    long = ap length (destuffed-ones 0 k) ∙ length-ones k
      where
        length-ones : (k : ℕ) → length (ones k) ≡ k
        length-ones zero = refl
        length-ones (suc k) = ap suc (length-ones k)

    go : (t : Bool) → eqb (run_after 0 q) 5 ≡ t → k < length (destuffed 0 q ++ cond t (destuffed 0 (ones k)) (false ∷ destuffed 0 (ones k)))
    go true e = simp length-append (omega (arith, run-le 0 q, eqb-true (run_after 0 q) 5 e, long))
    go false e = simp length-append (omega (arith, long))

-- a flag's bits but its last add fewer than eight
pub flag-short : (k : ℕ) → length (destuffed k (false ∷ ones 6)) < 8
flag-short k = go (eqb k 5)
  where
    go : (t : Bool) → length (cond t (ones 6) (false ∷ ones 6)) < 8
    go true = omega arith
    go false = omega arith

-- the first bit is never removed
pub destuffed-some : (b : Bool) (s : List Bool) → 0 < length (destuffed 0 (b ∷ s))
destuffed-some true s = omega arith
destuffed-some false s = omega arith

-- ---- abandoned

begins-zero : (n : ℕ) (p q : List Bool) → begins (ones n) (p ++ false ∷ q) ≡ begins (ones n) p
begins-zero zero p q = refl
begins-zero (suc n) [] q = refl
begins-zero (suc n) (false ∷ p) q = refl
begins-zero (suc n) (true ∷ p) q = begins-zero n p q

contains-split : (n : ℕ) (p q : List Bool) → contains (ones (suc n)) (p ++ false ∷ q) ≡
    (contains (ones (suc n)) p || contains (ones (suc n)) q)
contains-split n [] q = refl
contains-split n (b ∷ p) q =
    ap₂ (λ (x y : Bool). x || y) (begins-zero (suc n) (b ∷ p) q) (contains-split n p q)
    ∙ sym (or_assoc (begins (ones (suc n)) (b ∷ p)) (contains (ones (suc n)) p) (contains (ones (suc n)) q))
  where
    or_assoc : (x y z : Bool) → (x || y || z) ≡ (x || (y || z))
    or_assoc true y z = refl
    or_assoc false y z = refl

abandoned-zero : (p q : List Bool) → abandoned (p ++ false ∷ q) ≡ (abandoned p || contains (ones 7) q)
unfolding abandoned
abandoned-zero p q =
    ap₂ (λ (x y : Bool). x || y) (begins-zero 6 p q) (contains-split 6 p q) ∙ go (begins (ones 6) p) (contains (ones 7) p)
  where
    go : (x y : Bool) → (x || (y || contains (ones 7) q)) ≡ (x || y || contains (ones 7) q)
    go true y = refl
    go false y = refl

begins-end : (n k : ℕ) → k < n → begins (ones n) (ones k) ≡ false
begins-end zero k h = absurd (omega arith)
begins-end (suc n) zero h = refl
begins-end (suc n) (suc k) h = begins-end n k (omega arith)

contains-end : (n k : ℕ) → k < n → contains (ones n) (ones k) ≡ false
contains-end n zero h = begins-end n 0 h
contains-end n (suc k) h = rw (begins-end n (suc k) h) (contains-end n k (omega arith))

pub abandoned-ones : (k : ℕ) → k < 6 → abandoned (ones k) ≡ false
unfolding abandoned
abandoned-ones k h = rw (begins-end 6 k h) (contains-end 7 k (omega arith))

pub abandoned_six : abandoned (ones 6) ≡ true
unfolding abandoned
abandoned_six = refl

pub abandoned-none : abandoned [] ≡ true → ⊥
unfolding abandoned
abandoned-none e = true≢false (sym e)

pub abandoned_led : (p : List Bool) (k : ℕ) → k < 7 → abandoned (p ++ false ∷ ones k) ≡ abandoned p
abandoned_led p k h = abandoned-zero p (ones k) ∙ ap (λ (x : Bool). abandoned p || x) (contains-end 7 k h) ∙ go (abandoned p)
  where
    go : (t : Bool) → (t || false) ≡ t
    go true = refl
    go false = refl

pub abandoned_seven : (p : List Bool) → abandoned (p ++ false ∷ ones 7) ≡ true
abandoned_seven p = abandoned-zero p (ones 7) ∙ go (abandoned p)
  where
    go : (t : Bool) → (t || true) ≡ true
    go true = refl
    go false = refl

begins-more : (w p q : List Bool) → begins w p ≡ true → begins w (p ++ q) ≡ true
begins-more [] p q h = refl
begins-more (x ∷ w) [] q h = absurd (true≢false (sym h))
begins-more (true ∷ w) (true ∷ p) q h = begins-more w p q h
begins-more (true ∷ w) (false ∷ p) q h = absurd (true≢false (sym h))
begins-more (false ∷ w) (true ∷ p) q h = absurd (true≢false (sym h))
begins-more (false ∷ w) (false ∷ p) q h = begins-more w p q h

or_either : (x y : Bool) {u v : Bool} → (x ≡ true → u ≡ true) → (y ≡ true → v ≡ true) → (x || y) ≡ true → (u || v) ≡ true
or_either true y f g h = rw (f refl)
or_either false y {u} f g h = rw (g h) (go u)
  where
    go : (u : Bool) → (u || true) ≡ true
    go true = refl
    go false = refl

contains-more : (x : Bool) (w p q : List Bool) → contains (x ∷ w) p ≡ true → contains (x ∷ w) (p ++ q) ≡ true
contains-more x w [] q h = absurd (true≢false (sym h))
contains-more x w (b ∷ p) q h =
    or_either (begins (x ∷ w) (b ∷ p)) (contains (x ∷ w) p) (begins-more (x ∷ w) (b ∷ p) q) (contains-more x w p q) h

pub abandoned-more : (p q : List Bool) → abandoned p ≡ true → abandoned (p ++ q) ≡ true
unfolding abandoned
abandoned-more p q h = or_either (begins (ones 6) p) (contains (ones 7) p) (begins-more (ones 6) p q) (contains-more true (ones 6) p q) h
