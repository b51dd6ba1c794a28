-- Rows parted at flags, bit by bit.
use Prim.Native.Nat.{ℕ, zero, suc, ◌<◌}
use mathlib.Core.Path.{◌≡◌, refl, sym, ap, ◌∙◌}
use mathlib.Core.Bool.{Bool, true, false, cond}
use mathlib.Core.List.{List, [], ◌∷◌, ◌++◌, append-nil, drop_last}
use native.Mathlib.Omega.{arith}
use Rattle.bits.specs.Rows.{ones}
use Rattle.rawbits.specs.Recording.{flag, begins, onto, pieces}

-- the row w in front of the first piece
abbrev pub before : List Bool → List (List Bool) → List (List Bool)
before [] ps = ps
before (b ∷ w) ps = onto b (before w ps)

pub before-cons : (w p : List Bool) (ps : List (List Bool)) → before w (p ∷ ps) ≡ (w ++ p) ∷ ps
before-cons [] p ps = refl
before-cons (b ∷ w) p ps = ap (onto b) (before-cons w p ps)

pub before-append : (v w : List Bool) (ps : List (List Bool)) → before (v ++ w) ps ≡ before v (before w ps)
before-append [] w ps = refl
before-append (b ∷ v) w ps = ap (onto b) (before-append v w ps)

pub ones-more : (k : ℕ) (s : List Bool) → ones k ++ true ∷ s ≡ ones (suc k) ++ s
ones-more zero s = refl
ones-more (suc k) s = ap (λ (r : List Bool). true ∷ r) (ones-more k s)

pub ones-snoc : (k : ℕ) → ones (suc k) ≡ ones k ++ true ∷ []
ones-snoc k = sym (ones-more k [] ∙ append-nil (ones (suc k)))

pub below_six : (P : ℕ → Type 0) → P 0 → P 1 → P 2 → P 3 → P 4 → P 5 → (k : ℕ) → k < 6 → P k
below_six P a b c d e f zero h = a
below_six P a b c d e f (suc zero) h = b
below_six P a b c d e f (suc (suc zero)) h = c
below_six P a b c d e f (suc (suc (suc zero))) h = d
below_six P a b c d e f (suc (suc (suc (suc zero)))) h = e
below_six P a b c d e f (suc (suc (suc (suc (suc zero))))) h = f
below_six P a b c d e f (suc (suc (suc (suc (suc (suc k)))))) h = absurd (omega arith)

-- a 0, up to five 1s, and a 0: no flag begins at the first
piece-zero : (s : List Bool) (k : ℕ) → k < 6 → pieces 0 (false ∷ (ones k ++ false ∷ s)) ≡ before (false ∷ ones k) (pieces 0 (false ∷ s))
piece-zero s =
    below_six (λ (k : ℕ). pieces 0 (false ∷ (ones k ++ false ∷ s)) ≡ before (false ∷ ones k) (pieces 0 (false ∷ s))) refl refl refl refl
    refl refl

module _ (q s : List Bool) where
  pub zero-piece : (k : ℕ) → k < 6 → before q (pieces 0 (false ∷ (ones k ++ false ∷ s))) ≡ before (q ++ false ∷ ones k)
      (pieces 0 (false ∷ s))
  zero-piece k h = ap (before q) (piece-zero s k h) ∙ sym (before-append q (false ∷ ones k) (pieces 0 (false ∷ s)))

  pub one_piece : (k : ℕ) → before q (pieces 0 (false ∷ (ones k ++ true ∷ s))) ≡ before q (pieces 0 (false ∷ (ones (suc k) ++ s)))
  one_piece k = ap (λ (r : List Bool). before q (pieces 0 (false ∷ r))) (ones-more k s)

  pub seven_piece : before q (pieces 0 (false ∷ (ones 6 ++ true ∷ s))) ≡ before (q ++ false ∷ ones 7) (pieces 0 s)
  seven_piece = sym (before-append q (false ∷ ones 7) (pieces 0 s))

  pub flag-piece : before q (pieces 0 (false ∷ (ones 6 ++ false ∷ s))) ≡ q ∷ pieces 0 s
  flag-piece = before-cons q [] (pieces 0 s) ∙ ap (λ (r : List Bool). r ∷ pieces 0 s) (append-nil q)

-- up to six 1s behind a 0, and nothing more
pub last-piece : (k : ℕ) → k < 7 → pieces 0 (false ∷ ones k) ≡ (false ∷ ones k) ∷ []
last-piece zero h = refl
last-piece (suc k) h =
    below_six (λ (j : ℕ). pieces 0 (false ∷ ones (suc j)) ≡ (false ∷ ones (suc j)) ∷ []) refl refl refl refl refl refl k (omega arith)

-- there is always a piece
pieces-some : (k : ℕ) (s : List Bool) → (p : List Bool) × (ps : List (List Bool)) × (pieces k s ≡ p ∷ ps)
pieces-some k [] = ([], [], refl)
pieces-some (suc k) (b ∷ s) = pieces-some k s
pieces-some zero (b ∷ s) = go (begins flag (b ∷ s)) (pieces-some zero s)
  where
    go : (t : Bool) → (p : List Bool) × (ps : List (List Bool)) × (pieces 0 s ≡ p ∷ ps)
        → (p : List Bool) × (ps : List (List Bool)) × (cond t ([] ∷ pieces 7 s) (onto b (pieces 0 s)) ≡ p ∷ ps)
    go true q = ([], pieces 7 s, refl)
    go false q = (b ∷ q.0, q.1, ap (onto b) q.2)

pub drop-last : (p s : List Bool) → drop_last (p ∷ pieces 0 s) ≡ p ∷ drop_last (pieces 0 s)
drop-last p s = let q = pieces-some 0 s in rw q.2
