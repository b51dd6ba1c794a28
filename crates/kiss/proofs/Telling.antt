-- What a reader tells at a 0xC0 is what stands before it.
use Prim.Native.Nat.{ℕ, ◌+◌, ◌≤◌, min}
use mathlib.Core.Path.{◌≡◌, refl, sym, ap, ap₂, ◌∙◌}
use mathlib.Core.Bool.{Bool, true, false, not, ◌||◌, false≢true, true≢false}
use mathlib.Core.List.{List, [], ◌∷◌, map}
use mathlib.Core.Option.{Option, none, some}
use native.Mathlib.Omega.{arith}
use lib.ListN.{length, take, drop, length-take}
use lib.Seq.{take_all, take-append-le, take_at}
use lib.Dec.{ltb, eqb}
use borrow.Author.Tests.{ne_eqb, ltb-true, ltb-false}
use Rattle.octets.specs.Pick.{pick}
use Rattle.octets.proofs.Choices.{picked, passed}
use Rattle.octets.proofs.Tests.{or_left, or_right}
use Rattle.bits.specs.Rows.{ones}
use Rattle.bits.specs.Rows.Order.{low_first}
use Rattle.crc.specs.Check.{with_check}
use Rattle.stretch.specs.Stretch.{Stretch, found, clipped, most_kept}
use Rattle.kiss.specs.Stream.{typed, stretch_of}
use Rattle.kiss.specs.Reader.{reader, holds, frame_length, sealed, closed, told_by}
use Rattle.kiss.proofs.Escapes.{plain, wrong, unanswered, unescaped-is}
use Rattle.kiss.proofs.Behind.{odd, counted, keeping, behind, length-keeping}
use Rattle.kiss.proofs.Closing.{closes_18, closes_19, closes_frame}
use Rattle.kiss.proofs.Sealing.{sealed-front}

-- beyond the octets that are kept neither octets nor check show
clipped-check : (f : List ℕ) → take most_kept (with_check low_first (ones 16) (take most_kept f)) ≡ take most_kept
    (with_check low_first (ones 16) f)
unfolding with_check
clipped-check f = go (ltb (length f) most_kept) refl
  where
    go : (b : Bool) → ltb (length f) most_kept ≡ b → take most_kept (with_check low_first (ones 16) (take most_kept f)) ≡ take most_kept
        (with_check low_first (ones 16) f)
    go true a =
        ap (λ (r : List ℕ). take most_kept (with_check low_first (ones 16) r))
        (take_all most_kept f (omega (arith, ltb-true (length f) most_kept a)))
    go false a =
        let h : most_kept ≤ length f = ltb-false (length f) most_kept a in
        let k : length (take most_kept f) ≡ most_kept = omega (arith, length-take most_kept f) in
        take_at (take most_kept f) _ most_kept k ∙ sym (take-append-le most_kept f _ h)

-- the frame's octets that are kept, with their check
frame-front : (t : ℕ) (f o : List ℕ) → length o ≡ most_kept
    → take (min (frame_length (counted (t ∷ f)) + 2) (length (keeping (t ∷ f) o)))
    (sealed (frame_length (counted (t ∷ f))) (keeping (t ∷ f) o))
    ≡ take most_kept (with_check low_first (ones 16) f)
frame-front t f o l =
    let k : length (keeping (t ∷ f) o) ≡ most_kept = length-keeping (t ∷ f) o l in
    let n : frame_length (counted (t ∷ f)) ≡ length (take most_kept f) = omega (arith, length-take most_kept f) in
    sealed-front (frame_length (counted (t ∷ f))) (keeping (t ∷ f) o) (omega arith)
    ∙ ap₂ (λ (m : ℕ) (r : List ℕ). take m (with_check low_first (ones 16) r)) k
    (take_at (take most_kept f) (drop (length (take most_kept f)) o) _ (sym n))
    ∙ clipped-check f

-- behind the octets q with their escapes taken off, whether one was wrong, and whether the last is cut
module _ (w u : Bool) (o : List ℕ) (l : length o ≡ most_kept) where
  some-counted : (t : ℕ) (f : List ℕ) → not (eqb (counted (t ∷ f)) 0) ≡ true
  some-counted t f = ap not (ne_eqb (counted (t ∷ f)) 0 (λ e. omega arith))

  tells-typed : (q : List ℕ) → (w || u) ≡ false → not (eqb (counted q) 0) ≡ true
      → told_by (closed (reader true u w (odd q) (counted q)) 1 (keeping q o)) ≡ map clipped (typed (some q))
  tells-typed [] n h = absurd (false≢true h)
  tells-typed (t ∷ f) n h = go (eqb t 0) refl
    where
      go : (b : Bool) → eqb t 0 ≡ b
          → told_by (closed (reader true u w (odd (t ∷ f)) (counted (t ∷ f))) 1 (keeping (t ∷ f) o)) ≡ map clipped (typed (some (t ∷ f)))
      go true e =
          ap told_by (sym (closes_frame _ 1 _ n (ap not e) refl (refl, refl)))
          ∙ ap (λ (x : List ℕ). found x ∷ []) (frame-front t f o l)
          ∙ ap (λ (x : Stretch). clipped x ∷ []) (picked (eqb t 0) _ _ e)
      go false e =
          ap told_by (sym (closes_19 _ 1 _ n (ap not e)))
          ∙ ap (λ (x : Stretch). clipped x ∷ []) (passed (eqb t 0) _ _ _ e refl)

  tells : (q : List ℕ) → (w || u || not (eqb (counted q) 0)) ≡ true
      → told_by (closed (reader true u w (odd q) (counted q)) 1 (keeping q o)) ≡ map clipped (typed (pick (w || u) none (some q)))
  tells q h = go (w || u) refl
    where
      go : (b : Bool) → (w || u) ≡ b
          → told_by (closed (reader true u w (odd q) (counted q)) 1 (keeping q o)) ≡ map clipped (typed (pick (w || u) none (some q)))
      go true e = ap told_by (sym (closes_18 _ 1 _ e)) ∙ ap (λ (x : Option (List ℕ)). map clipped (typed x)) (picked (w || u) _ _ e)
      go false e =
          tells-typed q e (rw e at h)
          ∙ ap (λ (x : Option (List ℕ)). map clipped (typed x)) (passed (w || u) _ _ _ e refl)

  tells-nothing : (q : List ℕ) → (w || u || not (eqb (counted q) 0)) ≡ false → typed (pick (w || u) none (some q)) ≡ []
  tells-nothing [] h = ap typed (sym (passed (w || u) _ _ _ (or_left (w || u) _ h) refl))
  tells-nothing (t ∷ f) h = absurd (true≢false (sym (some-counted t f) ∙ or_right (w || u) _ h))

module _ (p o : List ℕ) (l : length o ≡ most_kept) where
  pub tells-held : holds (behind true p o).reader ≡ true → told_by (closed (behind true p o).reader 1 (behind true p o).kept) ≡ map
      clipped (stretch_of p)
  tells-held h =
      tells (wrong false p) (unanswered false p) o l (plain false p) h ∙ ap (λ (x : Option (List ℕ)). map clipped (typed x))
      (sym (unescaped-is p))

  pub nothing-held : holds (behind true p o).reader ≡ false → stretch_of p ≡ []
  nothing-held h = ap typed (unescaped-is p) ∙ tells-nothing (wrong false p) (unanswered false p) o l (plain false p) h
