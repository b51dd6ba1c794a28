-- The check put behind the octets kept, as far as there is room.
use Prim.Native.Nat.{ℕ, suc, ◌+◌, ◌/◌, ◌%◌, ◌≤◌, ◌<◌, min}
use mathlib.Core.Path.{◌≡◌, refl, sym, ap, ap₂, ◌∙◌}
use mathlib.Core.List.{List, [], ◌∷◌, ◌++◌, append_assoc, append-nil}
use mathlib.Core.Bool.{Bool, true, false}
use native.Mathlib.Omega.{arith}
use native.Mathlib.Numerals.{add-one}
use lib.ListN.{length, take, set, length-set, length-take}
use lib.Seq.{sets, set_out, take_all, take-length, take-append_seam, take-suc-set}
use lib.Dec.{ltb}
use borrow.Author.Tests.{ltb-true, ltb-false}
use Rattle.bits.specs.Rows.{ones}
use Rattle.bits.specs.Rows.Order.{low_first}
use Rattle.crc.specs.Check.{frame_check, octets_of, with_check}
use Rattle.kiss.specs.Reader.{sealed}

module _ (kept : List ℕ) (n : ℕ) {check : ℕ} (says : check ≡ frame_check (take n kept)) where
  pub seals_none : n ≡ length kept → (n ≡ min (n + 2) (length kept)) × (kept ≡ sealed n kept)
  unfolding sealed
  seals_none e = (
    omega arith,
    sym (ap (λ (k : List ℕ). set k (suc n) (frame_check (take n kept) / 256)) (set_out kept n _ (omega arith)) ∙ set_out kept (suc n) _
        (omega arith)),
  )

  pub seals_one : n + 1 ≡ length kept → (n + 1 ≡ min (n + 2) (length kept)) × (set kept n (check % 256) ≡ sealed n kept)
  unfolding sealed
  seals_one e =
      (omega arith, rw says (sym (set_out (set kept n (frame_check (take n kept) % 256)) (suc n) _ (simp length-set (omega arith)))))

  pub seals_both : n + 2 ≤ length kept → (n + 1 + 1 ≡ min (n + 2) (length kept)) ×
      (set (set kept n (check % 256)) (n + 1) (check / 256) ≡ sealed n kept)
  unfolding sealed
  seals_both l = (omega arith, rw (says, add-one))

-- ---- the octets up to the check's last, as far as there is room

sets_out : (k : List ℕ) (n : ℕ) (vs : List ℕ) → length k ≤ n → sets k n vs ≡ k
sets_out k n [] h = refl
sets_out k n (v ∷ vs) h = ap (λ (l : List ℕ). sets l (suc n) vs) (set_out k n v h) ∙ sets_out k (suc n) vs (omega arith)

take-room : (n : ℕ) (k vs : List ℕ) → n ≡ length k → take (length k) (take n k ++ vs) ≡ k
take-room n k vs e = rw (e, take-length) (take-append_seam k vs)

front_sets : (vs k : List ℕ) (n : ℕ) → n ≤ length k → take (min (n + length vs) (length k)) (sets k n vs) ≡ take (length k) (take n k ++ vs)
front_sets [] k n h =
    let e : min (n + 0) (length k) ≡ n = omega arith in
    ap (λ (m : ℕ). take m k) e ∙ sym (ap (take (length k)) (append-nil (take n k)) ∙ take_all (length k) (take n k)
    (omega (arith, length-take n k)))
front_sets (v ∷ vs) k n h = go (ltb n (length k)) refl (front_sets vs)
  where
    go : (b : Bool) → ltb n (length k) ≡ b
        → ((k : List ℕ) (n : ℕ) → n ≤ length k → take (min (n + length vs) (length k)) (sets k n vs) ≡ take (length k) (take n k ++ vs))
        → take (min (n + suc (length vs)) (length k)) (sets (set k n v) (suc n) vs) ≡ take (length k) (take n k ++ v ∷ vs)
    go true a rec =
        let l : n < length k = ltb-true n (length k) a in
        let e : min (n + suc (length vs)) (length k) ≡ min (suc n + length vs) (length (set k n v)) = omega (arith, length-set k n v) in
        ap (λ (m : ℕ). take m (sets (set k n v) (suc n) vs)) e
        ∙ rec (set k n v) (suc n) (omega (arith, length-set k n v))
        ∙ ap₂ (λ (m : ℕ) (r : List ℕ). take m (r ++ vs)) (length-set k n v) (take-suc-set k n v l)
        ∙ ap (take (length k)) (append_assoc (take n k) (v ∷ []) vs)
    go false a rec =
        let l : length k ≤ n = ltb-false n (length k) a in
        let e : min (n + suc (length vs)) (length k) ≡ length k = omega arith in
        ap₂ (λ (m : ℕ) (r : List ℕ). take m r) e (sets_out k n (v ∷ vs) l) ∙ take-length k ∙ sym (take-room n k (v ∷ vs) (omega arith))

pub sealed-front : (n : ℕ) (kept : List ℕ) → n ≤ length kept
    → take (min (n + 2) (length kept)) (sealed n kept) ≡ take (length kept) (with_check low_first (ones 16) (take n kept))
unfolding sealed with_check
sealed-front n kept h = front_sets (octets_of low_first (frame_check (take n kept))) kept n h
