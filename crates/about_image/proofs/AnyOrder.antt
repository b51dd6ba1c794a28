-- Lines in any order: the list, two packets, one packet again, and a conflict.
use Rattle.std.specs.Prelude.{Err}
use Prim.Native.Nat.{ℕ}
use native.Mathlib.Omega.{arith}
use mathlib.Core.Path.{◌≡◌, refl, sym, ap, subst, ◌∙◌}
use mathlib.Core.Bool.{Bool, true, false}
use mathlib.Core.Logic.{◌⊎◌, inl, inr}
use mathlib.Core.List.Memᴰ
use mathlib.Core.List.{List, [], ◌∷◌, Memᴰ}
use mathlib.Core.List.Permᴰ
use mathlib.Core.List.{Permᴰ}
use borrow.Author.Tests.{ne_eqb}
use Rattle.octets.specs.Numbers.{at}
use Rattle.octets.proofs.Choices.{picked}
use Rattle.answer.specs.declared.Reason.TheVariants.{LineHeld}
use Rattle.report.specs.Report.{pixels_of}
use Rattle.octets.specs.Same.{same}
use Rattle.image.specs.Line.{Image, Room, held_otherwise, placed}
use Rattle.image.specs.Placing.{observed, placing, Places}
use Rattle.image.specs.Answers.{Placed}
use Rattle.octets.proofs.Comparing.{same_is_equal}
use Rattle.image.proofs.Told.{observed_apart}
use Rattle.about_image.specs.Placings.{Arrived, line, row, Accepted, Alike, Agreeing, Placings, done, next}
use Rattle.about_image.specs.AnyOrder.{answer_of, Same, Reordered, AnyOrder, EitherOrder, Again, Conflicts}
use Rattle.about_image.proofs.Rows.{row-placed}
use Rattle.about_image.proofs.Numbers.{lower}
use Rattle.about_image.proofs.Packets.{line_to, Ready, ready, placed_or_held}
use Rattle.about_image.proofs.Steps.{number-placed, placed-room, fits, places}
use Rattle.about_image.proofs.Filling.{fills}
use Rattle.about_image.proofs.One.{one-image}

-- a member of a list is one of the list in another order
head_moved : {a x y : Arrived} {s t : List Arrived} → x ≡ y → (Memᴰ a s → Memᴰ a t) → (a ≡ x) ⊎ Memᴰ a s → Memᴰ a
    (y ∷ t)
head_moved e f (inl q) = Memᴰ.head (q ∙ e)
head_moved e f (inr m) = Memᴰ.tail (f m)

swapped : {a x y u v : Arrived} {s : List Arrived} → x ≡ v → y ≡ u → (a ≡ x) ⊎ Memᴰ a (y ∷ s) → Memᴰ a (u ∷ v ∷ s)
swapped e d (inl q) = Memᴰ.tail (Memᴰ.head (q ∙ e))
swapped e d (inr m) = head_moved d Memᴰ.tail (Memᴰ.cases_cons m)

moved : {s t : List Arrived} → Permᴰ s t → (a : Arrived) → Memᴰ a s → Memᴰ a t
moved Permᴰ.nil a m = m
moved (Permᴰ.cons e d) a m = head_moved e (moved d a) (Memᴰ.cases_cons m)
moved (Permᴰ.swap e d) a m = swapped e d (Memᴰ.cases_cons m)
moved (Permᴰ.trans d e) a m = moved e a (moved d a m)

pub reordered : Reordered
reordered s t p a = (moved p a, moved (Permᴰ.symm p) a)

-- what agrees has room, if there is a packet
some-room : (wanted : ℕ) (held : Image) (a : Arrived) → Accepted wanted held a → Room held
some-room wanted held a h = (ready wanted held a h).room

-- no packets
nothing : {wanted : ℕ} {i j : Image} {xs : List Placed} → Placings wanted i [] xs j → (xs ≡ []) × (i ≡ j)
nothing done = (refl, refl)

pub agree_in_order : (wanted : ℕ) (held : Image) (s t : List Arrived) → Same s t → Agreeing wanted held s → Agreeing wanted held t
agree_in_order wanted held s t e g =
    record { accepted = λ a m. g.accepted a ((e a).1 m); alike = λ a b m n. g.alike a b ((e a).1 m) ((e b).1 n) }

pub any_order : AnyOrder
any_order wanted held i j [] [] xs ys e g p q = ((nothing p).0, (nothing q).0, sym (nothing p).1 ∙ (nothing q).1)
any_order wanted held i j [] (b ∷ t) xs ys e g p q = absurd (Memᴰ.not-nil ((e b).1 (Memᴰ.head refl)))
any_order wanted held i j (a ∷ s) t xs ys e g p q =
    let k = fills wanted held i (a ∷ s) xs g p in
    let l = fills wanted held j t ys (agree_in_order wanted held (a ∷ s) t e g) q in
    (k.0, l.0, one-image held i j (a ∷ s) t (some-room wanted held a (g.accepted a (Memᴰ.head refl))) e k.1 l.1)

-- two packets
module _ (a b : Arrived) where
  of_two : {c : Arrived} → Memᴰ c (a ∷ b ∷ []) → (c ≡ a) ⊎ (c ≡ b)
  of_two m = by (Memᴰ.cases_cons m)
    where
      by : {c : Arrived} → (c ≡ a) ⊎ Memᴰ c (b ∷ []) → (c ≡ a) ⊎ (c ≡ b)
      by (inl e) = inl e
      by (inr n) = inr (Memᴰ.eq_of_singleton n)

  two_agree : (wanted : ℕ) (held : Image) → Accepted wanted held a → Accepted wanted held b → Alike a b → Agreeing wanted held (a ∷ b ∷ [])
  two_agree wanted held p q l = record { accepted = λ c m. accepted c (of_two m); alike = λ c d m n. alike c d (of_two m) (of_two n) }
    where
      accepted : (c : Arrived) → (c ≡ a) ⊎ (c ≡ b) → Accepted wanted held c
      accepted c (inl e) = rw e p
      accepted c (inr e) = rw e q

      alike : (c d : Arrived) → (c ≡ a) ⊎ (c ≡ b) → (d ≡ a) ⊎ (d ≡ b) → Alike c d
      alike c d (inl e) (inl f) k = rw (e, f) refl
      alike c d (inl e) (inr f) k = rw (e, f) (l (rw (e, f) at k))
      alike c d (inr e) (inl f) k = rw (e, f) (sym (l (sym (rw (e, f) at k))))
      alike c d (inr e) (inr f) k = rw (e, f) refl

pub either_order : EitherOrder
either_order wanted held i j a b xs ys p q l =
    any_order wanted held i j (a ∷ b ∷ []) (b ∷ a ∷ []) xs ys (reordered _ _ (Permᴰ.swap refl refl)) (two_agree a b wanted held p q l)

-- once or twice is the same packets
twice : (a : Arrived) → Same (a ∷ a ∷ []) (a ∷ [])
twice a c = (λ m. Memᴰ.head (by (of_two a a m)), Memᴰ.tail)
  where
    by : (c ≡ a) ⊎ (c ≡ a) → c ≡ a
    by (inl e) = e
    by (inr e) = e

pub again : Again
again wanted held i j a x y h p q =
    let k = any_order wanted held j i (a ∷ a ∷ []) (a ∷ []) (x ∷ y ∷ []) (x ∷ []) (twice a)
    (two_agree a a wanted held h h (λ e. refl)) (next p (next q done)) (next p done) in
    (ap second k.0, k.2)
  where
    second : List Placed → Placed
    second [] = x
    second (z ∷ []) = x
    second (z ∷ w ∷ s) = w

-- a conflict: what the first leaves is refused to the second
module _ (wanted : ℕ) (held : Image) (a b : Arrived) (p : Accepted wanted held a) (q : Accepted wanted held b) (e : line a ≡ line b)
    (n : pixels_of a.packet ≡ pixels_of b.packet → ⊥) where
  r : Ready wanted held a
  r = ready wanted held a p

  not_same : (v : Bool) → same (pixels_of a.packet) (pixels_of b.packet) ≡ v → v ≡ false
  not_same true h = absurd (n ((same_is_equal _ _).0 h))
  not_same false h = refl

  held_otherwise_lem : held_otherwise (placed held (line_to a)) (line b) (pixels_of b.packet) ≡ true
  unfolding held_otherwise
  held_otherwise_lem =
      let f = fits wanted held a r in
      let l = lower (at held.lines (line a)) a.arrival r.line.numbered in
      let m = number-placed held (line_to a) f in
      let k : at (placed held (line_to a)).lines (line b) ≡ 0 → ⊥ =
      λ z. omega (arith, l.positive, m, ap (at (placed held (line_to a)).lines) e ∙ z) in
      simp (ne_eqb _ 0 k, ap (row (placed held (line_to a))) (sym e) ∙ row-placed held (line_to a) f, not_same _ refl)

  refuses : {y : Placed} {j : Image} → Places b.packet b.arrival wanted (placed held (line_to a)) y j
      → (y ≡ Err LineHeld) × (j ≡ placed held (line_to a))
  unfolding placing
  refuses {y} {j} c =
      let o : observed y j ≡ observed (Err LineHeld) (placed held (line_to a)) =
      c ∙ placed_or_held wanted (placed held (line_to a)) b (ready wanted held b q).line
      (placed-room held (line_to a) (fits wanted held a r))
      ∙ sym (picked _ _ _ held_otherwise_lem) in
      let k = observed_apart o in
      (ap (λ z. z.0) k, ap (λ z. z.1) k)

  first-stays : {xs : List Placed} {i : Image} → Placings wanted held (a ∷ b ∷ []) xs i
      → (xs ≡ answer_of a ∷ Err LineHeld ∷ []) × (row i (line a) ≡ pixels_of a.packet)
  first-stays (next {j = j} {x = x} c (next {j = k} {x = y} d done)) =
      let u = places wanted held a r {x = x} {j = j} c in
      let w = refuses {y = y} {j = k} (subst (λ (l : Image). Places b.packet b.arrival wanted l y k) u.1 d) in
      (rw (u.0, w.0) refl, ap (λ (l : Image). row l (line a)) w.1 ∙ row-placed held (line_to a) (fits wanted held a r))

pub conflicts : Conflicts
conflicts wanted held i j a b xs ys p q e n c d =
    let u = first-stays wanted held a b p q e n c in
    let w = first-stays wanted held b a q p (sym e) (λ k. n (sym k)) d in
    (u.0, u.1, λ k. n (sym u.1 ∙ ap (λ (l : Image). row l (line a)) k ∙ ap (row j) e ∙ w.1))
