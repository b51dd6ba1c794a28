-- A new reader finds what the stream holds.
use Prim.Native.Nat.{ℕ}
use mathlib.Core.Path.{◌≡◌, refl, sym, ap, ap₂, ◌∙◌}
use mathlib.Core.Bool.{Bool, true, false, cond}
use mathlib.Core.List.{List, [], ◌∷◌, ◌++◌, append-nil, map}
use lib.ListN.{length}
use lib.Dec.{eqb}
use Rattle.octets.specs.Pick.{pick}
use Rattle.octets.proofs.Choices.{picked, passed}
use Rattle.stretch.specs.Stretch.{Stretch, clipped, most_kept}
use Rattle.kiss.specs.Stream.{mark, onto, parted, all_but_last, inner, stretch_of, stretches_of, stretches_in}
use Rattle.kiss.specs.Reader.{Standing, standing, holds, closed, to_find, FindsStream}
use Rattle.kiss.specs.declared.Reader.{Reader}
use Rattle.kiss.proofs.Behind.{behind, behind_more, length-keeping}
use Rattle.kiss.proofs.Escapes.{plain}
use Rattle.kiss.proofs.Finding.{closed-stops, to_find_here, to_find_past, to_find_after}
use Rattle.kiss.proofs.Telling.{tells-held, nothing-held}

-- ---- parts

-- octets w before the first of some parts
abbrev ahead : List ℕ → List (List ℕ) → List (List ℕ)
ahead [] ps = ps
ahead (x ∷ w) ps = onto x (ahead w ps)

ahead_snoc : (p : List ℕ) (x : ℕ) (ps : List (List ℕ)) → ahead (p ++ x ∷ []) ps ≡ ahead p (onto x ps)
ahead_snoc [] x ps = refl
ahead_snoc (y ∷ p) x ps = ap (onto y) (ahead_snoc p x ps)

ahead_cons : (w p : List ℕ) (ps : List (List ℕ)) → ahead w (p ∷ ps) ≡ (w ++ p) ∷ ps
ahead_cons [] p ps = refl
ahead_cons (x ∷ w) p ps = ap (onto x) (ahead_cons w p ps)

parted-some : (s : List ℕ) → (p : List ℕ) × (ps : List (List ℕ)) × (parted s ≡ p ∷ ps)
unfolding pick
parted-some [] = ([], [], refl)
parted-some (x ∷ s) = go (eqb x mark) (parted-some s)
  where
    go : (t : Bool) → (p : List ℕ) × (ps : List (List ℕ)) × (parted s ≡ p ∷ ps) → (p : List ℕ) × (ps : List (List ℕ)) ×
        (pick t ([] ∷ parted s) (onto x (parted s)) ≡ p ∷ ps)
    go true q = ([], parted s, refl)
    go false q = (x ∷ q.0, q.1, ap (onto x) q.2)

front-parted : (p s : List ℕ) → all_but_last (p ∷ parted s) ≡ p ∷ all_but_last (parted s)
front-parted p s = let q = parted-some s in rw q.2

-- ---- what is told of parts; z: whether a 0xC0 stands before the first

abbrev shown : Bool → List (List ℕ) → List Stretch
shown z ps = map clipped (stretches_of (cond z (all_but_last ps) (inner ps)))

map-append : (xs ys : List Stretch) → map clipped (xs ++ ys) ≡ map clipped xs ++ map clipped ys
map-append [] ys = refl
map-append (x ∷ xs) ys = ap (λ (r : List Stretch). clipped x ∷ r) (map-append xs ys)

shown-marked : (p s : List ℕ) → shown true (p ∷ parted s) ≡ map clipped (stretch_of p) ++ shown true (parted s)
shown-marked p s =
    ap (λ (ps : List (List ℕ)). map clipped (stretches_of ps)) (front-parted p s) ∙ map-append (stretch_of p)
    (stretches_of (all_but_last (parted s)))

shown-end : (z : Bool) (p : List ℕ) → shown z (ahead p ([] ∷ [])) ≡ []
shown-end z p = ap (shown z) (ahead_cons p [] []) ∙ go z
  where
    go : (z : Bool) → shown z ((p ++ []) ∷ []) ≡ []
    go true = refl
    go false = refl

-- the part that a 0xC0 ends
shown-mark : (z : Bool) (p s : List ℕ) (x : ℕ) → eqb x mark ≡ true → shown z (ahead p (parted (x ∷ s))) ≡ shown z (p ∷ parted s)
shown-mark z p s x h =
    ap (shown z) (ap (ahead p) (sym (picked (eqb x mark) _ _ h)) ∙ ahead_cons p [] (parted s) ∙ ap (λ (q : List ℕ). q ∷ parted s)
    (append-nil p))

shown-more : (z : Bool) (p s : List ℕ) (x : ℕ) → eqb x mark ≡ false → shown z (ahead p (parted (x ∷ s))) ≡ shown z
    (ahead (p ++ x ∷ []) (parted s))
shown-more z p s x h = ap (shown z) (ap (ahead p) (sym (passed (eqb x mark) _ _ _ h refl)) ∙ sym (ahead_snoc p x (parted s)))

-- ---- all octets

abbrev All : List ℕ → Type 0
All s = (z : Bool) (p o : List ℕ) → length o ≡ most_kept → to_find (behind z p o) s ≡ shown z (ahead p (parted s))

module _ (p s : List ℕ) (rec : All s) (x : ℕ) (h : eqb x mark ≡ true) (o : List ℕ) (l : length o ≡ most_kept) where
  at-mark-first : to_find (behind false p o) (x ∷ s) ≡ shown false (p ∷ parted s)
  at-mark-first = to_find_past (behind false p o) x s h refl ∙ rec true [] (behind false p o).kept (length-keeping (plain false p) o l)

  at_mark : to_find (behind true p o) (x ∷ s) ≡ shown true (p ∷ parted s)
  at_mark = go (holds (behind true p o).reader) refl ∙ sym (shown-marked p s)
    where
      go : (b : Bool) → holds (behind true p o).reader ≡ b → to_find (behind true p o) (x ∷ s) ≡ map clipped (stretch_of p) ++ shown true
          (parted s)
      go true k =
          let c = closed-stops (behind true p o).reader (behind true p o).kept in
          to_find_here (behind true p o) x s h k
          ∙ ap₂ (λ (a b : List Stretch). a ++ b) (tells-held p o l k)
          (ap (λ (a : Reader). to_find (standing a (closed (behind true p o).reader 1 (behind true p o).kept).standing.kept) s)
          c.reader
          ∙ rec true [] _ (c.same ∙ length-keeping (plain false p) o l))
      go false k =
          to_find_past (behind true p o) x s h k ∙ rec true [] (behind true p o).kept (length-keeping (plain false p) o l)
          ∙ ap (λ (a : List Stretch). map clipped a ++ shown true (parted s)) (sym (nothing-held p o l k))

all : (s : List ℕ) → All s
unfolding to_find
all [] z p o l = sym (shown-end z p)
all (x ∷ s) z p o l = go (eqb x mark) refl z (all s)
  where
    go : (t : Bool) → eqb x mark ≡ t → (z : Bool) → All s → to_find (behind z p o) (x ∷ s) ≡ shown z (ahead p (parted (x ∷ s)))
    go true h true rec = at_mark p s rec x h o l ∙ sym (shown-mark true p s x h)
    go true h false rec = at-mark-first p s rec x h o l ∙ sym (shown-mark false p s x h)
    go false h z rec =
        to_find_after (behind z p o) x s h ∙ ap (λ (a : Standing). to_find a s) (behind_more z p o x l) ∙ rec z (p ++ x ∷ []) o l
        ∙ sym (shown-more z p s x h)

pub finds_stream : FindsStream
unfolding stretches_in
finds_stream kept s l = all s false [] kept l
