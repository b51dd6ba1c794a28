-- Bits held by a pen.
use Prim.Native.Nat.{ℕ, suc, ◌+◌, ◌-◌, ◌*◌, ◌/◌, ◌%◌, ◌^◌, ◌≤◌, ◌<◌}
use mathlib.Core.Path.{◌≡◌, refl, sym, ap, ap₂, ◌∙◌}
use mathlib.Core.Bool.{Bool, true, false, not, cond, true≢false, false≢true}
use mathlib.Core.List.{List, [], ◌∷◌, ◌++◌, append_assoc, append-nil}
use native.Mathlib.Nat.{pow-le-pow_right}
use native.Mathlib.Omega.{arith}
use native.Mathlib.Numerals.{add-one}
use lib.ListN.{length, length-append}
use lib.Dec.{ltb}
use borrow.Author.Tests.{lt-ltb, le-ltb}
use lib.Pow.{mod-mod-pow, pow-add}
use Rattle.octets.specs.Pick.{pick}
use Rattle.octets.proofs.Choices.{picked, passed}
use Rattle.bits.specs.Rows.{digit, odd, digits_of}
use Rattle.bits.specs.Field.{high_bits}
use Rattle.bits.proofs.Numbers.{digit_lt}
use Rattle.bits.proofs.High.{length-bits, bits-cut, bits_join}
use Rattle.rawbits_writer.specs.Stream.{stuffed}
use Rattle.rawbits_writer.specs.Pen.{pen, held_by, with_bit, with_row, after, Few, Ready}
use Rattle.rawbits_writer.specs.declared.laying.Pen.{Pen}

-- ---- one bit more

bit-alone : (b : Bool) → high_bits 1 (digit b) ≡ b ∷ []
unfolding high_bits
bit-alone true = refl
bit-alone false = refl

one_more : (k a n : ℕ) (b : Bool) → n ≡ a * 2 + digit b → high_bits (k + 1) n ≡ high_bits k a ++ b ∷ []
one_more k a n b e =
    ap₂ high_bits (let f : k + 1 ≡ 1 + k = omega arith in f) e ∙ bits_join k 1 a (digit b) (digit_lt b) ∙ ap
    (λ (r : List Bool). high_bits k a ++ r) (bit-alone b)

two-more : (k a : ℕ) → high_bits (k + 2) (a * 4 + 2) ≡ high_bits k a ++ true ∷ false ∷ []
two-more k a =
    ap (λ (j : ℕ). high_bits j (a * 4 + 2)) (let f : k + 2 ≡ k + 1 + 1 = omega arith in f)
    ∙ one_more (k + 1) (a * 2 + 1) (a * 4 + 2) false (omega arith)
    ∙ ap (λ (r : List Bool). r ++ false ∷ []) (one_more k a (a * 2 + 1) true refl)
    ∙ append_assoc (high_bits k a) (true ∷ []) (false ∷ [])

-- as the code goes
pub bit-zero : (p : Pen) (b : Bool) → not b ≡ true → pen p.at (p.held * 2) (p.bits + 1) 0 ≡ with_bit p b
unfolding with_bit
bit-zero p true h = absurd (false≢true h)
bit-zero p false h = refl

pub bit-one : (p : Pen) (b : Bool) → not b ≡ false → p.ones < 4 → pen p.at (p.held * 2 + 1) (p.bits + 1) (p.ones + 1) ≡ with_bit p b
unfolding with_bit
bit-one p true h l = picked _ _ _ (lt-ltb p.ones 4 l)
bit-one p false h l = absurd (true≢false h)

pub bit-fifth : (p : Pen) (b : Bool) → not b ≡ false → 4 ≤ p.ones → pen p.at (p.held * 4 + 2) (p.bits + 2) 0 ≡ with_bit p b
unfolding with_bit
bit-fifth p true h l = passed _ _ _ _ (le-ltb p.ones 4 l) refl
bit-fifth p false h l = absurd (true≢false h)

-- ---- a row more

pub row-held : (p : Pen) (s : List Bool) → held_by (with_row p s) ≡ held_by p ++ stuffed p.ones s
unfolding held_by with_bit pick
row-held p [] = sym (append-nil _)
row-held p (false ∷ s) =
    row-held (pen p.at (p.held * 2) (p.bits + 1) 0) s
    ∙ ap (λ (r : List Bool). r ++ stuffed 0 s) (one_more p.bits p.held (p.held * 2) false (omega arith))
    ∙ append_assoc (high_bits p.bits p.held) (false ∷ []) (stuffed 0 s)
row-held p (true ∷ s) =
    go (ltb p.ones 4) (row-held (pen p.at (p.held * 2 + 1) (p.bits + 1) (p.ones + 1)) s)
    (row-held (pen p.at (p.held * 4 + 2) (p.bits + 2) 0) s)
  where
    go : (t : Bool)
        → held_by (with_row (pen p.at (p.held * 2 + 1) (p.bits + 1) (p.ones + 1)) s) ≡ high_bits (p.bits + 1)
        (p.held * 2 + 1) ++ stuffed (p.ones + 1) s
        → held_by (with_row (pen p.at (p.held * 4 + 2) (p.bits + 2) 0) s) ≡ high_bits (p.bits + 2) (p.held * 4 + 2) ++ stuffed 0 s
        → held_by (with_row (pick t (pen p.at (p.held * 2 + 1) (p.bits + 1) (p.ones + 1))
        (pen p.at (p.held * 4 + 2) (p.bits + 2) 0)) s)
        ≡ high_bits p.bits p.held ++ true ∷ cond t (stuffed (suc p.ones) s) (false ∷ stuffed 0 s)
    go true f g =
        f ∙ ap₂ (λ (r : List Bool) (j : ℕ). r ++ stuffed j s) (one_more p.bits p.held (p.held * 2 + 1) true refl) (add-one p.ones)
        ∙ append_assoc (high_bits p.bits p.held) (true ∷ []) (stuffed (suc p.ones) s)
    go false f g =
        g ∙ ap (λ (r : List Bool). r ++ stuffed 0 s) (two-more p.bits p.held)
        ∙ append_assoc (high_bits p.bits p.held) (true ∷ false ∷ []) (stuffed 0 s)

pub length-held : (p : Pen) → length (held_by p) ≡ p.bits
unfolding held_by
length-held p = length-bits p.bits p.held

pub row-bits : (p : Pen) (s : List Bool) → (with_row p s).bits ≡ p.bits + length (stuffed p.ones s)
row-bits p s =
    sym (length-held (with_row p s)) ∙ ap length (row-held p s) ∙ length-append (held_by p) (stuffed p.ones s)
    ∙ ap (λ (n : ℕ). n + length (stuffed p.ones s)) (length-held p)

pub row_at : (p : Pen) (s : List Bool) → (with_row p s).at ≡ p.at
unfolding with_bit pick
row_at p [] = refl
row_at p (false ∷ s) = row_at (pen p.at (p.held * 2) (p.bits + 1) 0) s
row_at p (true ∷ s) =
    go (ltb p.ones 4) (row_at (pen p.at (p.held * 2 + 1) (p.bits + 1) (p.ones + 1)) s)
    (row_at (pen p.at (p.held * 4 + 2) (p.bits + 2) 0) s)
  where
    go : (t : Bool) → (with_row (pen p.at (p.held * 2 + 1) (p.bits + 1) (p.ones + 1)) s).at ≡ p.at
        → (with_row (pen p.at (p.held * 4 + 2) (p.bits + 2) 0) s).at ≡ p.at
        → (with_row (pick t (pen p.at (p.held * 2 + 1) (p.bits + 1) (p.ones + 1)) (pen p.at (p.held * 4 + 2) (p.bits + 2) 0)) s).at
        ≡ p.at
    go true f g = f
    go false f g = g

pub row-ones : (p : Pen) (s : List Bool) → (with_row p s).ones ≡ after p.ones s
unfolding with_bit pick
row-ones p [] = refl
row-ones p (false ∷ s) = row-ones (pen p.at (p.held * 2) (p.bits + 1) 0) s
row-ones p (true ∷ s) =
    go (ltb p.ones 4)
    (row-ones (pen p.at (p.held * 2 + 1) (p.bits + 1) (p.ones + 1)) s ∙ ap (λ (k : ℕ). after k s) (add-one p.ones))
    (row-ones (pen p.at (p.held * 4 + 2) (p.bits + 2) 0) s)
  where
    go : (t : Bool) → (with_row (pen p.at (p.held * 2 + 1) (p.bits + 1) (p.ones + 1)) s).ones ≡ after (suc p.ones) s
        → (with_row (pen p.at (p.held * 4 + 2) (p.bits + 2) 0) s).ones ≡ after 0 s
        → (with_row (pick t (pen p.at (p.held * 2 + 1) (p.bits + 1) (p.ones + 1)) (pen p.at (p.held * 4 + 2) (p.bits + 2) 0))
        s).ones
        ≡ cond t (after (suc p.ones) s) (after 0 s)
    go true f g = f
    go false f g = g

-- ---- an octet's bits, one after another

pub record Turns (p₀ : Pen) (x : ℕ) (p : Pen) (rest i : ℕ) : Type 0 where
  pub inside : i ≤ 8
  pub same : with_row p (digits_of (8 - i) rest) ≡ with_row p₀ (digits_of 8 x)
  pub small : p.held < 2 ^ (7 + 2 * i)
  pub few : p.bits ≤ 7 + 2 * i

pub turns-first : {p : Pen} {x : ℕ} → Ready p → Turns p x p x 0
turns-first r = record { inside = omega arith; same = refl; small = r.small; few = omega (arith, r.few) }

four-more : (i : ℕ) → 2 ^ (7 + 2 * (i + 1)) ≡ 2 ^ (7 + 2 * i) * 4
four-more i = ap (λ (n : ℕ). 2 ^ n) (let e : 7 + 2 * (i + 1) ≡ 7 + 2 * i + 2 = omega arith in e) ∙ pow-add 2 (7 + 2 * i) 2

bit-small : (p : Pen) (b : Bool) (m : ℕ) → p.held < m → (with_bit p b).held < m * 4
unfolding with_bit pick
bit-small p false m h = omega arith
bit-small p true m h = go (ltb p.ones 4)
  where
    go : (t : Bool) → (pick t (pen p.at (p.held * 2 + 1) (p.bits + 1) (p.ones + 1))
        (pen p.at (p.held * 4 + 2) (p.bits + 2) 0)).held < m * 4
    go true = omega arith
    go false = omega arith

bit-few : (p : Pen) (b : Bool) → (with_bit p b).bits ≤ p.bits + 2
unfolding with_bit pick
bit-few p false = omega arith
bit-few p true = go (ltb p.ones 4)
  where
    go : (t : Bool) → (pick t (pen p.at (p.held * 2 + 1) (p.bits + 1) (p.ones + 1))
        (pen p.at (p.held * 4 + 2) (p.bits + 2) 0)).bits ≤ p.bits + 2
    go true = omega arith
    go false = omega arith

module _ {p₀ : Pen} {x : ℕ} {p : Pen} {rest i : ℕ} (t : Turns p₀ x p rest i) where
  pub turns-few : i < 8 → Few p
  turns-few h =
      let l : 2 ^ (7 + 2 * i) ≤ 2 ^ 21 = pow-le-pow_right (omega arith) {i = 7 + 2 * i} {j = 21} (omega arith) in
      record { small = omega (arith, t.small, l); few = omega (arith, t.few) }

  pub turns_next : {q : Pen} → i < 8 → q ≡ with_bit p (odd rest) → Turns p₀ x q (rest / 2) (i + 1)
  turns_next {q} h e =
      let l : p.held < 2 ^ (7 + 2 * i) = t.small in
      record {
        inside = omega arith;
        same =
            ap (λ (r : Pen). with_row r (digits_of (8 - (i + 1)) (rest / 2))) e
            ∙ sym (ap (λ (k : ℕ). with_row p (digits_of k rest)) (let z : 8 - i ≡ suc (8 - (i + 1)) = omega arith in z)) ∙ t.same;
        small = rw (four-more i, e) (bit-small p (odd rest) (2 ^ (7 + 2 * i)) l);
        few = rw e (omega (arith, bit-few p (odd rest), t.few));
      }

  pub turns-end : 8 ≤ i → p ≡ with_row p₀ (digits_of 8 x)
  turns-end h = ap (λ (k : ℕ). with_row p (digits_of k rest)) (let z : 0 ≡ 8 - i = omega (arith, t.inside) in z) ∙ t.same

-- ---- bits that are no longer held

pub masked : (k n : ℕ) → k < 8 → high_bits k (n % 128) ≡ high_bits k n
masked k n h =
    sym (bits-cut k (n % 128))
    ∙ ap (high_bits k) (ap (λ (j : ℕ). n % 2 ^ j % 2 ^ k) (let e : 7 ≡ 7 - k + k = omega arith in e) ∙ mod-mod-pow n (7 - k) k)
    ∙ bits-cut k n

pub several_more : (p q : Pen) (m b : ℕ) → b < 2 ^ m → q.bits ≡ m + p.bits → q.held ≡ p.held * 2 ^ m + b
    → held_by q ≡ held_by p ++ high_bits m b
unfolding held_by
several_more p q m b l e f = ap₂ high_bits e f ∙ bits_join p.bits m p.held b l
