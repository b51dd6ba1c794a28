-- What came in can be told from the register: its step has an inverse, and so has a run of 16 bits.
use mathlib.Core.Path.{◌≡◌, refl, sym, ap, ◌∙◌}
use mathlib.Core.Bool.{Bool, true, false}
use mathlib.Core.List.{List, [], ◌∷◌, ◌++◌, append-nil}
use Prim.Native.Nat.{ℕ, zero, suc}
use native.Mathlib.Nat.{suc_inj, suc-ne-zero}
use lib.ListN.{length}
use Rattle.bits.specs.Rows.{plus, zeros}
use Rattle.crc.specs.Check.{generator, feed, step, run}
use Rattle.bits.proofs.Rows.{plus_assoc, plus_self, zeros-plus, length-plus, plus-append, plus_twice, length-snoc}
use Rattle.crc.proofs.Register.{Z, plus_Z, length-step, length_run, split}

-- ---- a step over 0 has an inverse: the generator's X^0 says what left

abbrev last : List Bool → Bool
last [] = false
last (x ∷ []) = x
last (x ∷ y ∷ ys) = last (y ∷ ys)

abbrev front : List Bool → List Bool
front [] = []
front (x ∷ []) = []
front (x ∷ y ∷ ys) = x ∷ front (y ∷ ys)

last_snoc : (xs : List Bool) (x : Bool) → last (xs ++ (x ∷ [])) ≡ x
last_snoc [] x = refl
last_snoc (y ∷ []) x = refl
last_snoc (y ∷ z ∷ xs) x = last_snoc (z ∷ xs) x

front-snoc : (xs : List Bool) (x : Bool) → front (xs ++ (x ∷ [])) ≡ xs
front-snoc [] x = refl
front-snoc (y ∷ []) x = refl
front-snoc (y ∷ z ∷ xs) x = ap (λ (r : List Bool). y ∷ r) (front-snoc (z ∷ xs) x)

abbrev back : List Bool → List Bool
back q = last q ∷ front (feed (last q) q)

-- the generator without its X^0
above : List Bool
above = front generator

back_step : (r : List Bool) → length r ≡ 16 → back (step r false) ≡ r
unfolding above
back_step [] h = absurd (suc-ne-zero 15 (sym h))
back_step (false ∷ r) h =
    ap (λ (t : Bool). t ∷ front (feed t (r ++ (false ∷ [])))) (last_snoc r false) ∙ ap (λ (q : List Bool). false ∷ q) (front-snoc r false)
back_step (true ∷ r) h =
    ap (λ (t : Bool). t ∷ front (feed t (plus (r ++ (false ∷ [])) generator)))
    (ap last (plus-append r above (false ∷ []) (true ∷ []) (suc_inj h)) ∙ last_snoc (plus r above) true)
    ∙ ap (λ (q : List Bool). true ∷ front q) (plus_twice (r ++ (false ∷ [])) generator (length-snoc r false ∙ h))
    ∙ ap (λ (q : List Bool). true ∷ q) (front-snoc r false)

run-same : (n : ℕ) (r s : List Bool) → length r ≡ 16 → length s ≡ 16 → run r (zeros n) ≡ run s (zeros n) → r ≡ s
run-same zero r s h k e = e
run-same (suc n) r s h k e =
    sym (back_step r h)
    ∙ ap back (run-same n (step r false) (step s false) (length-step r false h) (length-step s false k) e)
    ∙ back_step s k

-- ---- 16 bits

-- 16 bits that come in count as if they stood in the register
whole : (r e : List Bool) → length r ≡ 16 → length e ≡ 16 → run r e ≡ run Z (plus r e)
whole r e h k =
    ap (λ (q : List Bool). run q e) (sym (append-nil r))
    ∙ split r e [] (h ∙ sym k) (ap length (append-nil r) ∙ h)
    ∙ ap (λ (n : ℕ). plus (run Z (plus r e)) (zeros n)) k
    ∙ plus_Z (run Z (plus r e)) (length_run Z (plus r e) refl)

one-to-one : (e m : List Bool) → length e ≡ 16 → length m ≡ 16 → run Z e ≡ run Z m → e ≡ m
one-to-one e m h k q = run-same 16 e m h k (over_zeros e h ∙ q ∙ sym (over_zeros m k))
  where
    over_zeros : (r : List Bool) → length r ≡ 16 → run r Z ≡ run Z r
    over_zeros r h = whole r Z h refl ∙ ap (run Z) (plus_Z r h)

again : (r e : List Bool) → length r ≡ 16 → length e ≡ 16 → plus r (plus r e) ≡ e
again r e h k = sym (plus_assoc r r e) ∙ ap (λ (q : List Bool). plus q e) (plus_self r ∙ ap zeros (h ∙ sym k)) ∙ zeros-plus e

-- a register over its own bits with a mask added, and back
pub own_row : (r m : List Bool) → length r ≡ 16 → length m ≡ 16 → run r (plus r m) ≡ run Z m
own_row r m h k = whole r (plus r m) h (length-plus r m (h ∙ sym k) ∙ h) ∙ ap (run Z) (again r m h k)

pub own_row_back : (r e m : List Bool) → length r ≡ 16 → length e ≡ 16 → length m ≡ 16 → run r e ≡ run Z m → e ≡ plus r m
own_row_back r e m h k l q =
    sym (again r e h k)
    ∙ ap (plus r) (one-to-one (plus r e) m (length-plus r e (h ∙ sym k) ∙ h) l (sym (whole r e h k) ∙ q))
