-- Bits that a check shows do not leave the register at all zeros, from all zeros.
use Prim.Native.Nat.{ℕ, zero, suc, ◌+◌, ◌-◌, ◌≤◌, ◌<◌}
use native.Mathlib.Nat.{suc_inj, suc-ne-zero, le_of_suc-le-suc, not-suc-le-zero, le_trans, le-suc}
use native.Mathlib.Omega.{arith}
use mathlib.Core.Path.{◌≡◌, refl, sym, ap, ◌∙◌}
use mathlib.Core.Bool.{Bool, true, false, not, ◌&&◌, true≢false, false≢true}
use mathlib.Core.List.{List, [], ◌∷◌, ◌++◌}
use lib.ListN.{length, take, drop, length-append, length-take, take-append-drop}
use lib.Seq.{drop-drop}
use lib.Dec.{eqb}
use Rattle.octets.proofs.Tests.{and_true_left, and_true_right}
use Rattle.bits.specs.Rows.{◌⊕◌, plus, zeros, odd}
use Rattle.bits.proofs.Rows.{⊕-false, ⊕-comm, ⊕-assoc, length-plus, plus_twice, length-zeros, length-snoc}
use Rattle.crc.specs.Check.{generator, feed, step, run}
use Rattle.crc.proofs.Register.{Z, length-step, length_run, run-append, plus_Z, step-plus}
use Rattle.crc.proofs.Inverse.{own_row_back}
use Rattle.about_damage.specs.Damage.{count, Within, Shown}
use Rattle.about_damage.specs.Damage.Shown.{oddly, two, near}
use Rattle.about_damage.proofs.Counts.{count-append, count_none, parity, parity_odd, parity_plus, parity_snoc}

-- ---- a register that zeros leave at all zeros was there before

step-zero : (r : List Bool) → length r ≡ 16 → step r false ≡ Z → r ≡ Z
step-zero r h z = sym (plus_Z r h) ∙ sym (own_row_back r Z Z h refl refl (ap (λ (q : List Bool). run q (zeros 15)) z))

run_none : (row r : List Bool) → count row ≡ 0 → length r ≡ 16 → run r row ≡ Z → r ≡ Z
run_none [] r w h z = z
run_none (false ∷ row) r w h z = step-zero r h (run_none row (step r false) w (length-step r false h) z)
run_none (true ∷ row) r w h z = absurd (suc-ne-zero (count row) w)

pub run-zeros : (n : ℕ) → run Z (zeros n) ≡ Z
run-zeros zero = refl
run-zeros (suc n) = run-zeros n

-- ---- an odd number: X + 1 divides the generator, so the register's sum of bits is that of the bits that came in

parity_feed : (d : Bool) (r : List Bool) → length r ≡ 16 → parity (feed d r) ≡ parity r ⊕ d
parity_feed false r h = sym (⊕-false (parity r))
parity_feed true r h = parity_plus r generator h

parity_step : (r : List Bool) (b : Bool) → length r ≡ 16 → parity (step r b) ≡ parity r ⊕ b
parity_step [] b h = absurd (suc-ne-zero 15 (sym h))
parity_step (t ∷ r) b h =
    parity_feed (t ⊕ b) (r ++ (false ∷ [])) (length-snoc r false ∙ h)
    ∙ ap (λ (p : Bool). p ⊕ (t ⊕ b)) (parity_snoc r)
    ∙ sym (⊕-assoc (parity r) t b) ∙ ap (λ (p : Bool). p ⊕ b) (⊕-comm (parity r) t)

parity_run : (r row : List Bool) → length r ≡ 16 → parity (run r row) ≡ parity r ⊕ parity row
parity_run r [] h = sym (⊕-false (parity r))
parity_run r (b ∷ row) h =
    parity_run (step r b) row (length-step r b h)
    ∙ ap (λ (p : Bool). p ⊕ parity row) (parity_step r b h) ∙ ⊕-assoc (parity r) b (parity row)

odd-shown : (row : List Bool) → odd (count row) ≡ true → run Z row ≡ Z → ⊥
odd-shown row h z = true≢false (sym h ∙ sym (parity_odd row) ∙ sym (parity_run Z row refl) ∙ ap parity z)

-- ---- two bits: behind the first, no register of the next 2,192 has its top bit alone, which a second bit would clear. One computed test

abbrev top : List Bool
top = true ∷ zeros 15

abbrev alone : List Bool → Bool
alone [] = false
alone (b ∷ r) = b && eqb (count r) 0

abbrev avoids : ℕ → List Bool → Bool
avoids zero r = true
avoids (suc n) r = not (alone r) && avoids n (step r false)

far : avoids 2192 generator ≡ true
far = refl

clears : (r : List Bool) → length r ≡ 16 → step r true ≡ Z → r ≡ top
clears r h z =
    sym (plus_twice r top h)
    ∙ ap (λ (q : List Bool). plus q top)
    (step-zero (plus r top) (length-plus r top h ∙ h) (step-plus r top true true h refl ∙ ap (λ (q : List Bool). plus q Z) z))

one-shown : (n : ℕ) (row r : List Bool) → count row ≡ 1 → length row ≤ n → length r ≡ 16 → avoids n r ≡ true → run r row ≡ Z → ⊥
one-shown n [] r w l h t z = suc-ne-zero 0 (sym w)
one-shown zero (b ∷ row) r w l h t z = not-suc-le-zero l
one-shown (suc n) (false ∷ row) r w l h t z =
    one-shown n row (step r false) w (le_of_suc-le-suc l) (length-step r false h)
    (and_true_right (not (alone r)) (avoids n (step r false)) t) z
one-shown (suc n) (true ∷ row) r w l h t z =
    false≢true
    (ap (λ (q : List Bool). not (alone q)) (sym (clears r h (run_none row (step r true) (suc_inj w) (length-step r true h) z)))
    ∙ and_true_left (not (alone r)) (avoids n (step r false)) t)

two-shown : (row : List Bool) → count row ≡ 2 → length row ≤ 2192 → run Z row ≡ Z → ⊥
two-shown [] w l z = suc-ne-zero 1 (sym w)
two-shown (false ∷ row) w l z = two-shown row w (le_trans (le-suc (length row)) l) z
two-shown (true ∷ row) w l z = one-shown 2192 row generator (suc_inj w) (le_trans (le-suc (length row)) l) refl far z

-- ---- bits within 16 neighbours

-- 16 bits at most that leave all zeros are zeros themselves
short_none : (row : List Bool) → length row ≤ 16 → run Z row ≡ Z → count row ≡ 0
short_none row h z =
    let e : row ++ zeros (16 - length row) ≡ Z = own_row_back Z (row ++ zeros (16 - length row)) Z refl long refl ran in
    let n : count row + count (zeros (16 - length row)) ≡ 0 = sym (count-append row (zeros (16 - length row))) ∙ ap count e in
    omega arith
  where
    long : length (row ++ zeros (16 - length row)) ≡ 16
    long = length-append row (zeros (16 - length row)) ∙ ap (λ (n : ℕ). length row + n) (length-zeros (16 - length row)) ∙ omega arith

    ran : run Z (row ++ zeros (16 - length row)) ≡ Z
    ran =
        run-append Z row (zeros (16 - length row)) ∙ ap (λ (q : List Bool). run q (zeros (16 - length row))) z
        ∙ run-zeros (16 - length row)

near-shown : (row : List Bool) → 0 < count row → Within 16 row → run Z row ≡ Z → ⊥
near-shown row h w z =
    let d : List Bool = drop w.from row in
    let b : List Bool = take 16 d in
    let none : count (drop 16 d) ≡ 0 = ap count (drop-drop 16 w.from row) ∙ w.behind in
    let first : run Z (take w.from row) ≡ Z = ap (run Z) (count_none (take w.from row) w.before) ∙ run-zeros
    (length (take w.from row)) in
    let ran : run (run Z b) (drop 16 d) ≡ Z =
    sym (run-append Z b (drop 16 d)) ∙ ap (run Z) (take-append-drop 16 d)
    ∙ ap (λ (q : List Bool). run q d) (sym first) ∙ sym (run-append Z (take w.from row) d)
    ∙ ap (run Z) (take-append-drop w.from row) ∙ z in
    let inside : count b ≡ 0 =
    short_none b (omega (arith, length-take 16 d)) (run_none (drop 16 d) (run Z b) none (length_run Z b refl) ran) in
    let all : count row ≡ count (take w.from row) + (count b + count (drop 16 d)) =
    ap count (sym (take-append-drop w.from row)) ∙ count-append (take w.from row) d
    ∙ ap (λ (n : ℕ). count (take w.from row) + n) (ap count (sym (take-append-drop 16 d)) ∙ count-append b (drop 16 d)) in
    omega (arith, w.before)

pub shown : (row : List Bool) → length row ≤ 2192 → Shown row → run Z row ≡ Z → ⊥
shown row l (oddly h) z = odd-shown row h z
shown row l (two h) z = two-shown row h l z
shown row l (near h w) z = near-shown row h w z
