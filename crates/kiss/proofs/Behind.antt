-- What a reader holds of the octets that have come since the last 0xC0.
use Prim.Native.Nat.{ℕ, suc, ◌+◌, ◌-◌, ◌≤◌, ◌<◌, min}
use mathlib.Core.Path.{◌≡◌, refl, sym, ap, ap₂, ◌∙◌}
use mathlib.Core.Bool.{Bool, true, false, not, ◌||◌}
use mathlib.Core.List.{List, [], ◌∷◌, ◌++◌, append_assoc, append-nil}
use native.Mathlib.Omega.{arith}
use lib.ListN.{length, get_or, take, drop, set, length-append, length-take, length-drop}
use lib.Seq.{take_all, take-append-le, set_at, drop-cons}
use lib.Dec.{ltb, eqb}
use borrow.Author.Tests.{ltb-true, ltb-false}
use Rattle.octets.specs.Pick.{pick}
use Rattle.stretch.specs.Stretch.{most_kept}
use Rattle.kiss.specs.Stream.{escape}
use Rattle.kiss.specs.Reader.{Standing, standing, reader, meant, misplaced, taking, after}
use Rattle.kiss.proofs.Escapes.{plain, wrong, unanswered, plain_more, wrong-more, unanswered_more}
use Rattle.kiss.proofs.Scanning.{takes_type, takes_one, takes_none}

-- ---- of the octets q with their escapes taken off: the type octet, their number up to 276, and the frame's first 275

abbrev pub odd : List ℕ → Bool
odd [] = false
odd (t ∷ f) = not (eqb t 0)

abbrev pub rest : List ℕ → List ℕ
rest [] = []
rest (t ∷ f) = f

abbrev pub counted : List ℕ → ℕ
counted q = min (length q) (suc most_kept)

abbrev pub keeping : List ℕ → List ℕ → List ℕ
keeping q o = take most_kept (rest q) ++ drop (length (take most_kept (rest q))) o

abbrev pub holding : Bool → Bool → Bool → List ℕ → List ℕ → Standing
holding z e w q o = standing (reader z e w (odd q) (counted q)) (keeping q o)

length-snoc : (f : List ℕ) (v : ℕ) → length (f ++ v ∷ []) ≡ suc (length f)
length-snoc f v = length-append f (v ∷ []) ∙ (omega arith)

pub length-keeping : (q o : List ℕ) → length o ≡ most_kept → length (keeping q o) ≡ most_kept
length-keeping q o h =
    omega (
      arith,
      length-append (take most_kept (rest q)) (drop (length (take most_kept (rest q))) o),
      length-drop
          (length (take most_kept (rest q))) o,
      length-take most_kept (rest q),
    )

-- one more
next-held : (z e w : Bool) (q o : List ℕ) (v : ℕ) → length o ≡ most_kept
    → taking (reader z e w (odd q) (counted q)) (keeping q o) v ≡ holding z e w (q ++ v ∷ []) o
next-held z e w [] o v h = takes_type _ _ _ refl
next-held z e w (t ∷ q) o v h = go (ltb (length q) most_kept) refl
  where
    go : (b : Bool) → ltb (length q) most_kept ≡ b
        → taking (reader z e w (odd (t ∷ q)) (counted (t ∷ q))) (keeping (t ∷ q) o) v ≡ holding z e w (t ∷ (q ++ v ∷ [])) o
    go true a =
        let l : length q < most_kept = ltb-true (length q) most_kept a in
        let s : counted (t ∷ q) ≡ suc (length q) = omega arith in
        let i : counted (t ∷ q) - 1 ≡ length q = omega arith in
        let n : counted (t ∷ q) + 1 ≡ counted (t ∷ (q ++ v ∷ [])) = omega (arith, length-snoc q v) in
        takes_one _ _ _ (λ x. omega arith) (omega arith)
        ∙ ap₂ (λ (m : ℕ) (k : List ℕ). standing (reader z e w (odd (t ∷ q)) m) k) n
        (ap₂ (λ (m : ℕ) (r : List ℕ). set (r ++ drop (length r) o) m v) i (take_all most_kept q (omega arith))
        ∙ ap (λ (r : List ℕ). set (q ++ r) (length q) v) (drop-cons o (length q) 0 (omega arith))
        ∙ set_at q (get_or o (length q) 0) (drop (suc (length q)) o) v (length q) refl
        ∙ sym (ap (λ (r : List ℕ). r ++ drop (length r) o) (take_all most_kept (q ++ v ∷ []) (omega (arith, length-snoc q v)))
        ∙ ap (λ (m : ℕ). (q ++ v ∷ []) ++ drop m o) (length-snoc q v) ∙ append_assoc q (v ∷ []) (drop (suc (length q)) o)))
    go false a =
        let l : most_kept ≤ length q = ltb-false (length q) most_kept a in
        let n : counted (t ∷ q) ≡ counted (t ∷ (q ++ v ∷ [])) = omega (arith, length-snoc q v) in
        takes_none _ _ _ (λ x. omega arith) (omega arith)
        ∙ ap₂ (λ (m : ℕ) (r : List ℕ). standing (reader z e w (odd (t ∷ q)) m) (r ++ drop (length r) o)) n
        (sym (take-append-le most_kept q (v ∷ []) l))

-- ---- of all octets p since the last 0xC0; z: whether there was one

abbrev pub behind : Bool → List ℕ → List ℕ → Standing
behind z p o = holding z (unanswered false p) (wrong false p) (plain false p) o

or_false : (b : Bool) → (b || false) ≡ b
or_false true = refl
or_false false = refl

pub behind_more : (z : Bool) (p o : List ℕ) (x : ℕ) → length o ≡ most_kept
    → after (behind z p o).reader (behind z p o).kept x ≡ behind z (p ++ x ∷ []) o
unfolding after pick
behind_more z p o x l =
    go (unanswered false p) (eqb x escape) refl
    ∙ sym (ap₂ (λ (q : List ℕ) (w : Bool). holding z (unanswered false (p ++ x ∷ [])) w q o) (plain_more false p x) (wrong-more false p x)
    ∙ ap (λ (e : Bool). holding z e (wrong false p || wrong (unanswered false p) (x ∷ []))
    (plain false p ++ plain (unanswered false p) (x ∷ [])) o) (unanswered_more false p x))
  where
    q : List ℕ
    q = plain false p

    w : Bool
    w = wrong false p

    go : (e t : Bool) → eqb x escape ≡ t
        → pick e (taking (reader z false (w || misplaced x) (odd q) (counted q)) (keeping q o) (meant x))
        (pick t (standing (reader z true w (odd q) (counted q)) (keeping q o)) (taking (reader z e w (odd q) (counted q)) (keeping q o) x))
        ≡ holding z (unanswered e (x ∷ [])) (w || wrong e (x ∷ [])) (q ++ plain e (x ∷ [])) o
    go true t h =
        next-held z false (w || misplaced x) q o (meant x) l ∙ ap (λ (b : Bool). holding z false (w || b) (q ++ meant x ∷ []) o)
        (sym (or_false (misplaced x)))
    go false true h = rw (h, append-nil q, or_false w)
    go false false h = rw (h, or_false w) (next-held z false w q o x l)
