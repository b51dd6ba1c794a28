-- Bits among which no five 1s in a row come about, taken one by one or eight at once.
use Prim.Native.Nat.{ℕ, zero, suc, ◌+◌, ◌-◌, ◌*◌, ◌/◌, ◌%◌, ◌^◌, ◌≤◌, ◌<◌}
use mathlib.Core.Path.{◌≡◌, refl, sym, ap, ap₂, ◌∙◌}
use mathlib.Core.Bool.{Bool, true, false}
use mathlib.Core.List.{List, [], ◌∷◌, ◌++◌, append_assoc, foldl, foldl-append}
use native.Mathlib.Omega.{arith}
use native.Mathlib.Numerals.{add-one}
use lib.ListN.{length, get_or, take, drop, set, length-append, length-take, length-drop}
use lib.Seq.{split_at}
use lib.Pow.{shr-shr}
use lib.Dec.{ltb}
use borrow.Author.Tests.{lt-ltb, ltb-true, ltb-false, ne_eqb}
use Rattle.octets.specs.Pick.{pick}
use Rattle.octets.proofs.Tests.{and_true_left, and_true_right}
use Rattle.bits.specs.Rows.{digit, value_of, ones}
use Rattle.bits.proofs.Numbers.{digit_lt}
use Rattle.stretch.specs.declared.Found.{Found}
use Rattle.rawbits.specs.Reader.{standing, row, latest, counted, added, stored, after_one, after_zero, after}
use Rattle.rawbits.specs.Reader.{Passing, passed}
use Rattle.rawbits.specs.Eight.{calm}
use Rattle.rawbits.specs.declared.Row.{Row}
use Rattle.rawbits.specs.declared.Reader.{Reader}
use Rattle.rawbits.proofs.Destuffing.{run_after}
use Rattle.rawbits.proofs.Holding.{shift, shifts, eight, length-stored}

-- fewer before are calm too
pub calm_fewer : (j k : ℕ) (s : List Bool) → j ≤ k → calm k s ≡ true → calm j s ≡ true
calm_fewer j k [] l h = refl
calm_fewer j k (true ∷ s) l h =
    rw (lt-ltb j 4 (omega (arith, ltb-true k 4 (and_true_left (ltb k 4) (calm (suc k) s) h))))
    (calm_fewer (suc j) (suc k) s (omega arith) (and_true_right (ltb k 4) (calm (suc k) s) h))
calm_fewer j k (false ∷ s) l h = h

-- ---- what calm bits make of a reader

module _ (most : ℕ) where
  -- the frame's bits, the octets kept, and the place of the last 0
  abbrev pub added_all : Row → List Bool → Row
  added_all r s = foldl (added most) r s

  abbrev pub stored_all : Row → List Bool → List ℕ → List ℕ
  stored_all r [] kept = kept
  stored_all r (b ∷ s) kept = stored_all (added most r b) s (stored r b kept)

  abbrev pub mark_after : ℕ → Row → List Bool → ℕ
  mark_after m r [] = m
  mark_after m r (true ∷ s) = mark_after m (added most r true) s
  mark_after m r (false ∷ s) = mark_after r.begun (added most r false) s

abbrev state : Bool → ℕ → Bool → ℕ → Row → Reader
state seen k lost m r = record { seen = seen; ones = k; abandoned = lost; mark = m; row = r }

module _ (z : Bool) (k : ℕ) (lost : Bool) (m : ℕ) (r : Row) (kept : List ℕ) (f : Found) (n : ℕ) (e : length kept ≡ n) (l : k < 5) where
  calm-one : passed (record { standing = standing (state z k lost m r) kept; found = f }) true
      ≡ record { standing = standing (state z (suc k) lost m (added n r true)) (stored r true kept); found = f }
  unfolding passed after after_one pick
  calm-one =
      rw (lt-ltb k 5 l, e)
      (ap (λ (i : ℕ). record { standing = standing (state z i lost m (added n r true)) (stored r true kept); found = f }) (add-one k))

  calm-zero : passed (record { standing = standing (state z k lost m r) kept; found = f }) false
      ≡ record { standing = standing (state z 0 lost r.begun (added n r false)) (stored r false kept); found = f }
  unfolding passed after after_zero pick
  calm-zero = rw (ne_eqb k 6 (λ d. omega arith), ne_eqb k 5 (λ d. omega arith), e)

-- none of them ends a flag
pub calm-passed : (s : List Bool) (z : Bool) (k : ℕ) (lost : Bool) (m : ℕ) (r : Row) (kept : List ℕ) (f : Found) (n : ℕ) → length kept ≡ n
    → k < 5 → calm k s ≡ true
    → foldl passed (record { standing = standing (state z k lost m r) kept; found = f }) s
    ≡ record { standing = standing (state z (run_after k s) lost (mark_after n m r s) (added_all n r s)) (stored_all n r s kept); found = f }
calm-passed [] z k lost m r kept f n e l h = refl
calm-passed (true ∷ s) z k lost m r kept f n e l h =
    ap (λ (p : Passing). foldl passed p s) (calm-one z k lost m r kept f n e l)
    ∙ calm-passed s z (suc k) lost m (added n r true) (stored r true kept) f n (length-stored r true kept ∙ e)
    (omega (arith, ltb-true k 4 (and_true_left (ltb k 4) (calm (suc k) s) h))) (and_true_right (ltb k 4) (calm (suc k) s) h)
calm-passed (false ∷ s) z k lost m r kept f n e l h =
    ap (λ (p : Passing). foldl passed p s) (calm-zero z k lost m r kept f n e l)
    ∙ calm-passed s z 0 lost r.begun (added n r false) (stored r false kept) f n (length-stored r false kept ∙ e) (omega arith) h

-- ---- the last 0

-- where eight places go round
added-begun : (n : ℕ) (r : Row) (b : Bool) → r.begun < 8 → (added n r b).begun ≡ (r.begun + 1) % 8
unfolding added pick
added-begun n r b l = go (ltb r.begun 7) refl
  where
    go : (t : Bool) → ltb r.begun 7 ≡ t → (pick t (row (latest r b) (r.begun + 1) r.whole)
        (row (latest r b) 0 (counted n r.whole))).begun ≡ (r.begun + 1) % 8
    go true e = omega (arith, ltb-true r.begun 7 e)
    go false e = omega (arith, ltb-false r.begun 7 e)

begun-after : (n : ℕ) (s : List Bool) (r : Row) → r.begun < 8 → (added_all n r s).begun ≡ (r.begun + length s) % 8
begun-after n [] r l = omega arith
begun-after n (b ∷ s) r l =
    let e = added-begun n r b l in
    begun-after n s (added n r b) (omega (arith, e)) ∙ (omega (arith, e))

mark-ones : (n m : ℕ) (r : Row) (k : ℕ) → mark_after n m r (ones k) ≡ m
mark-ones n m r zero = refl
mark-ones n m r (suc k) = mark-ones n m (added n r true) k

pub mark-last : (n m : ℕ) (p : List Bool) (k : ℕ) (r : Row) → r.begun < 8 → mark_after n m r (p ++ false ∷ ones k) ≡
    (r.begun + length p) % 8
mark-last n m [] k r l = mark-ones n r.begun (added n r false) k ∙ (omega arith)
mark-last n m (true ∷ p) k r l =
    let e = added-begun n r true l in
    mark-last n m p k (added n r true) (omega (arith, e)) ∙ (omega (arith, e))
mark-last n m (false ∷ p) k r l =
    let e = added-begun n r false l in
    mark-last n r.begun p k (added n r false) (omega (arith, e)) ∙ (omega (arith, e))

-- ---- the octet that eight bits make whole

shift_joined : (l : ℕ) (u v : List Bool) → l < 256 → shifts l u ≡ (value_of (u ++ v) * 256 + l) / 2 ^ length u % 256
shift_joined l [] v h = omega arith
shift_joined l (b ∷ u) v h =
    shift_joined (shift l b) u v (omega (arith, digit_lt b))
    ∙ ap (λ (n : ℕ). n / 2 ^ length u % 256)
    (let e : value_of (u ++ v) * 256 + shift l b ≡ ((value_of (u ++ v) * 2 + digit b) * 256 + l) / 2 = omega arith in e)
    ∙ ap (λ (n : ℕ). n % 256)
    (shr-shr ((value_of (u ++ v) * 2 + digit b) * 256 + l) 1 (length u)
    ∙ ap (λ (k : ℕ). ((value_of (u ++ v) * 2 + digit b) * 256 + l) / 2 ^ k) (let e : 1 + length u ≡ suc (length u) = omega arith in e))

-- fewer than make an octet whole
module _ (n : ℕ) where
  one-added : (b : Bool) (r : Row) → r.begun < 7 → added n r b ≡ row (latest r b) (r.begun + 1) r.whole
  unfolding added pick
  one-added b r h = rw (lt-ltb r.begun 7 h)

  one-stored : (b : Bool) (r : Row) (kept : List ℕ) → r.begun < 7 → stored r b kept ≡ kept
  unfolding stored pick
  one-stored b r kept h = rw (lt-ltb r.begun 7 h)

  few-added : (p : List Bool) (r : Row) → r.begun + length p < 8 → added_all n r p ≡ row (shifts r.last p) (r.begun + length p)
      r.whole
  few-added [] r h = ap (λ (k : ℕ). row r.last k r.whole) (let e : r.begun ≡ r.begun + 0 = omega arith in e)
  few-added (b ∷ p) r h =
      ap (λ (q : Row). added_all n q p) (one-added b r (omega arith)) ∙ few-added p (row (latest r b) (r.begun + 1) r.whole)
      (omega arith)
      ∙ ap (λ (k : ℕ). row (shifts r.last (b ∷ p)) k r.whole)
      (let e : r.begun + 1 + length p ≡ r.begun + suc (length p) = omega arith in e)

  few-stored : (p : List Bool) (r : Row) (kept : List ℕ) → r.begun + length p < 8 → stored_all n r p kept ≡ kept
  few-stored [] r kept h = refl
  few-stored (b ∷ p) r kept h =
      ap₂ (λ (q : Row) (k : List ℕ). stored_all n q p k) (one-added b r (omega arith)) (one-stored b r kept (omega arith))
      ∙ few-stored p (row (latest r b) (r.begun + 1) r.whole) kept (omega arith)

  all_append : (p q : List Bool) (r : Row) (kept : List ℕ) → stored_all n r (p ++ q) kept ≡ stored_all n (added_all n r p) q
      (stored_all n r p kept)
  all_append [] q r kept = refl
  all_append (b ∷ p) q r kept = all_append p q (added n r b) (stored r b kept)

  -- p, the bit c that makes an octet whole, and q behind it
  module _ (p : List Bool) (c : Bool) (q : List Bool) (r : Row) (a : r.begun + length p ≡ 7) (b : length q < 8) where
    before-whole : added_all n r p ≡ row (shifts r.last p) 7 r.whole
    before-whole = few-added p r (omega arith) ∙ ap (λ (k : ℕ). row (shifts r.last p) k r.whole) a

    abbrev whole : Row
    whole = row (shift (shifts r.last p) c) 0 (counted n r.whole)

    makes_whole : added n (row (shifts r.last p) 7 r.whole) c ≡ whole
    unfolding added pick
    makes_whole = refl

    stores_whole : (kept : List ℕ) → stored (row (shifts r.last p) 7 r.whole) c kept ≡ set kept r.whole
        (shift (shifts r.last p) c)
    unfolding stored pick
    stores_whole kept = refl

    parts_added : added_all n r (p ++ c ∷ q) ≡ row (shifts r.last (p ++ c ∷ q)) (length q) (counted n r.whole)
    parts_added =
        foldl-append (added n) r p (c ∷ q) ∙ ap (λ (x : Row). added_all n (added n x c) q) before-whole ∙ ap
        (λ (x : Row). added_all n x q) makes_whole
        ∙ few-added q whole (omega arith)
        ∙ ap₂ (λ (x k : ℕ). row x k (counted n r.whole)) (sym (foldl-append shift r.last p (c ∷ q)))
        (let e : 0 + length q ≡ length q = omega arith in e)

    parts-stored : (kept : List ℕ) → stored_all n r (p ++ c ∷ q) kept ≡ set kept r.whole (shifts r.last (p ++ c ∷ []))
    parts-stored kept =
        all_append p (c ∷ q) r kept
        ∙ ap₂ (λ (x : Row) (k : List ℕ). stored_all n (added n x c) q (stored x c k)) before-whole (few-stored p r kept (omega arith))
        ∙ ap₂ (λ (x : Row) (k : List ℕ). stored_all n x q k) makes_whole (stores_whole kept)
        ∙ few-stored q whole _ (omega arith)
        ∙ ap (set kept r.whole) (sym (foldl-append shift r.last p (c ∷ [])))

  module _ (s : List Bool) (r : Row) (l : length s ≡ 8) (h : r.begun < 8) (x : r.last < 256) where
    abbrev front : List Bool
    front = take (7 - r.begun) s

    abbrev turn : Bool
    turn = get_or s (7 - r.begun) false

    abbrev back : List Bool
    back = drop (suc (7 - r.begun)) s

    split : s ≡ front ++ turn ∷ back
    split = split_at s (7 - r.begun) false (omega arith)

    front_long : r.begun + length front ≡ 7
    front_long = simp length-take (omega arith)

    back_long : length back ≡ r.begun
    back_long = simp length-drop (omega arith)

    pub eight_added : added_all n r s ≡ row (value_of s) r.begun (counted n r.whole)
    eight_added =
        ap (added_all n r) split ∙ parts_added front turn back r front_long (omega (arith, back_long))
        ∙ ap₂ (λ (y k : ℕ). row y k (counted n r.whole)) (ap (shifts r.last) (sym split) ∙ eight r.last s x l) back_long

    pub eight_stored : (kept : List ℕ) → stored_all n r s kept ≡ set kept r.whole ((value_of s * 256 + r.last) / 2 ^ (8 - r.begun) % 256)
    eight_stored kept =
        ap (λ (t : List Bool). stored_all n r t kept) split ∙ parts-stored front turn back r front_long (omega (arith, back_long)) kept
        ∙ ap (set kept r.whole)
        (shift_joined r.last (front ++ turn ∷ []) back x
        ∙ ap₂ (λ (t : List Bool) (k : ℕ). (value_of t * 256 + r.last) / 2 ^ k % 256) (append_assoc front (turn ∷ []) back ∙ sym split)
        (let e : length (front ++ turn ∷ []) ≡ 8 - r.begun = simp length-append (omega (arith, front_long)) in e))
