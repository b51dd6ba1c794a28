-- Stuffed bits have no flag in them, nor across the joints with the flags around them.
use Prim.Native.Nat.{ℕ, zero, suc, ◌<◌}
use mathlib.Core.Path.{◌≡◌, refl, sym, ap, ◌∙◌}
use mathlib.Core.Bool.{Bool, true, false}
use mathlib.Core.List.{List, [], ◌∷◌, ◌++◌, append-nil}
use native.Mathlib.Omega.{arith}
use lib.Dec.{eqb}
use borrow.Author.Tests.{lt-ltb, ne_eqb, eqb-true, eqb-false}
use Rattle.octets.proofs.Tests.{or_left, or_right}
use Rattle.bits.specs.Rows.{ones, bits_of_all}
use Rattle.bits.specs.Rows.Order.{low_first}
use Rattle.rawbits.specs.Recording.{flag, begins, contains, onto, pieces, abandoned, destuffed}
use Rattle.rawbits.proofs.Pieces.{before, before-cons, ones-more, below_six, zero-piece}
use Rattle.rawbits_writer.specs.Stream.{stuffed}
use Rattle.rawbits_writer.specs.Back.{StuffedHasNoFlag}

-- the fifth 1 in a row, or an earlier one
fifth : (P : ℕ → Type 0) → P 4 → ((k : ℕ) → k < 4 → P k) → (k : ℕ) → k < 5 → P k
fifth P p q k h = go (eqb k 4) refl
  where
    go : (t : Bool) → eqb k 4 ≡ t → P k
    go true e = rw (eqb-true k 4 e) p
    go false e = q k (omega (arith, eqb-false k 4 e))

-- ---- stuffing is undone

pub destuffed-stuffed : (k : ℕ) (s : List Bool) → k < 5 → destuffed k (stuffed k s) ≡ s
destuffed-stuffed k [] h = refl
destuffed-stuffed k (false ∷ s) h =
    rw (ne_eqb k 5 (λ e. omega arith)) (ap (λ (r : List Bool). false ∷ r) (destuffed-stuffed 0 s (omega arith)))
destuffed-stuffed k (true ∷ s) h =
    fifth (λ (j : ℕ). destuffed j (stuffed j (true ∷ s)) ≡ true ∷ s)
    (ap (λ (r : List Bool). true ∷ r) (destuffed-stuffed 0 s (omega arith)))
    (λ j l. rw (lt-ltb j 4 l) (ap (λ (r : List Bool). true ∷ r) (destuffed-stuffed (suc j) s (omega arith)))) k h

-- ---- a 1 that is not the fifth

more : (j : ℕ) (s : List Bool) → j < 4 → ones j ++ stuffed j (true ∷ s) ≡ ones (suc j) ++ stuffed (suc j) s
more j s l = rw (lt-ltb j 4 l) (ones-more j (stuffed (suc j) s))

more_then : (j : ℕ) (s r : List Bool) → j < 4 → ones j ++ (stuffed j (true ∷ s) ++ r) ≡ ones (suc j) ++ (stuffed (suc j) s ++ r)
more_then j s r l = rw (lt-ltb j 4 l) (ones-more j (stuffed (suc j) s ++ r))

-- ---- stuffed bits before a flag are one piece

-- 1s with nothing before them begin no flag
pieces-ones : (s : List Bool) (k : ℕ) → pieces 0 (ones k ++ s) ≡ before (ones k) (pieces 0 s)
pieces-ones s zero = refl
pieces-ones s (suc k) = ap (onto true) (pieces-ones s k)

-- k 1s behind a 0
piece_led : (k : ℕ) (s r : List Bool) → k < 5 → pieces 0 (false ∷ (ones k ++ (stuffed k s ++ (flag ++ r)))) ≡
    (false ∷ (ones k ++ stuffed k s)) ∷ pieces 0 r
piece_led k [] r h = zero-piece [] _ k (omega arith) ∙ before-cons (false ∷ ones k) [] (pieces 0 r)
piece_led k (false ∷ s) r h =
    zero-piece [] _ k (omega arith) ∙ ap (before (false ∷ ones k)) (piece_led 0 s r (omega arith)) ∙ before-cons (false ∷ ones k)
    (false ∷ stuffed 0 s) (pieces 0 r)
piece_led k (true ∷ s) r h =
    fifth (λ (j : ℕ). pieces 0 (false ∷ (ones j ++ (stuffed j (true ∷ s) ++ (flag ++ r)))) ≡
    (false ∷ (ones j ++ stuffed j (true ∷ s))) ∷ pieces 0 r)
    (zero-piece [] (stuffed 0 s ++ (flag ++ r)) 5 (omega arith) ∙ ap (before (false ∷ ones 5)) (piece_led 0 s r (omega arith)))
    (λ j l.
    ap (λ (q : List Bool). pieces 0 (false ∷ q)) (more_then j s (flag ++ r) l) ∙ piece_led (suc j) s r (omega arith)
    ∙ ap (λ (q : List Bool). (false ∷ q) ∷ pieces 0 r) (sym (more j s l))) k h

-- k 1s at the start
piece-bare : (k : ℕ) (s r : List Bool) → k < 5 → pieces 0 (ones k ++ (stuffed k s ++ (flag ++ r))) ≡ (ones k ++ stuffed k s) ∷ pieces 0 r
piece-bare k [] r h = pieces-ones (flag ++ r) k ∙ before-cons (ones k) [] (pieces 0 r)
piece-bare k (false ∷ s) r h =
    pieces-ones _ k ∙ ap (before (ones k)) (piece_led 0 s r (omega arith)) ∙ before-cons (ones k) (false ∷ stuffed 0 s) (pieces 0 r)
piece-bare k (true ∷ s) r h =
    fifth (λ (j : ℕ). pieces 0 (ones j ++ (stuffed j (true ∷ s) ++ (flag ++ r))) ≡ (ones j ++ stuffed j (true ∷ s)) ∷ pieces 0 r)
    (ap (before (ones 5)) (piece_led 0 s r (omega arith)))
    (λ j l.
    ap (pieces 0) (more_then j s (flag ++ r) l) ∙ piece-bare (suc j) s r (omega arith)
    ∙ ap (λ (q : List Bool). q ∷ pieces 0 r) (sym (more j s l))) k h

pub stuffed-piece : (s r : List Bool) → pieces 0 (stuffed 0 s ++ (flag ++ r)) ≡ stuffed 0 s ∷ pieces 0 r
stuffed-piece s r = piece-bare 0 s r (omega arith)

-- ---- no six 1s in a row

begins-run : (n k : ℕ) (s : List Bool) → k < n → begins (ones n) (ones k ++ false ∷ s) ≡ false
begins-run zero k s h = absurd (omega arith)
begins-run (suc n) zero s h = refl
begins-run (suc n) (suc k) s h = begins-run n k s (omega arith)

begins-end : (n k : ℕ) → k < n → begins (ones n) (ones k) ≡ false
begins-end zero k h = absurd (omega arith)
begins-end (suc n) zero h = refl
begins-end (suc n) (suc k) h = begins-end n k (omega arith)

contains-run : (n k : ℕ) (s : List Bool) → k < n → contains (ones n) (ones k ++ false ∷ s) ≡ contains (ones n) s
contains-run zero k s h = absurd (omega arith)
contains-run (suc n) zero s h = refl
contains-run (suc n) (suc k) s h = rw (begins-run n k s (omega arith)) (contains-run (suc n) k s (omega arith))

contains-end : (n k : ℕ) → k < n → contains (ones n) (ones k) ≡ false
contains-end n zero h = begins-end n 0 h
contains-end n (suc k) h = rw (begins-end n (suc k) h) (contains-end n k (omega arith))

stuffed-run : (n k : ℕ) (s : List Bool) → k < 5 → 5 < n → contains (ones n) (ones k ++ stuffed k s) ≡ false
stuffed-run n k [] h m = rw (append-nil (ones k)) (contains-end n k (omega arith))
stuffed-run n k (false ∷ s) h m = contains-run n k (stuffed 0 s) (omega arith) ∙ stuffed-run n 0 s (omega arith) m
stuffed-run n k (true ∷ s) h m =
    fifth (λ (j : ℕ). contains (ones n) (ones j ++ stuffed j (true ∷ s)) ≡ false)
    (contains-run n 5 (stuffed 0 s) m ∙ stuffed-run n 0 s (omega arith) m)
    (λ j l. ap (contains (ones n)) (more j s l) ∙ stuffed-run n (suc j) s (omega arith) m) k h

begins-contains : (w s : List Bool) → contains w s ≡ false → begins w s ≡ false
begins-contains w [] h = h
begins-contains w (b ∷ s) h = or_left _ _ h

pub not_abandoned : (s : List Bool) → abandoned (stuffed 0 s) ≡ false
unfolding abandoned
not_abandoned s =
    rw (
      begins-contains (ones 6) (stuffed 0 s) (stuffed-run 6 0 s (omega arith) (omega arith)),
      stuffed-run 7 0 s (omega arith)
          (omega arith),
    )

-- ---- no flag

contains-zero : (s : List Bool) (k : ℕ) → k < 6 → contains flag (false ∷ (ones k ++ false ∷ s)) ≡ contains flag (false ∷ s)
contains-zero s =
    below_six (λ (k : ℕ). contains flag (false ∷ (ones k ++ false ∷ s)) ≡ contains flag (false ∷ s)) refl refl refl refl refl refl

contains-few : (k : ℕ) → k < 6 → contains flag (false ∷ ones k) ≡ false
contains-few = below_six (λ (k : ℕ). contains flag (false ∷ ones k) ≡ false) refl refl refl refl refl refl

flag_led : (k : ℕ) (s : List Bool) → k < 5 → contains flag (false ∷ (ones k ++ stuffed k s)) ≡ false
flag_led k [] h = rw (append-nil (ones k)) (contains-few k (omega arith))
flag_led k (false ∷ s) h = contains-zero (stuffed 0 s) k (omega arith) ∙ flag_led 0 s (omega arith)
flag_led k (true ∷ s) h =
    fifth (λ (j : ℕ). contains flag (false ∷ (ones j ++ stuffed j (true ∷ s))) ≡ false)
    (contains-zero (stuffed 0 s) 5 (omega arith) ∙ flag_led 0 s (omega arith))
    (λ j l. ap (λ (q : List Bool). contains flag (false ∷ q)) (more j s l) ∙ flag_led (suc j) s (omega arith)) k h

no_flag : (s : List Bool) → contains flag (stuffed 0 s) ≡ false
no_flag s = or_right (begins flag (false ∷ stuffed 0 s)) (contains flag (stuffed 0 s)) (flag_led 0 s (omega arith))

pub stuffed_has_no_flag : StuffedHasNoFlag
stuffed_has_no_flag f = no_flag (bits_of_all low_first f)
