-- The places up to one, of a list of images.
use Prim.Native.Nat.{ℕ, zero, suc, ◌+◌, ◌-◌, ◌≤◌, ◌<◌}
use mathlib.Core.Path.{◌≡◌, refl, sym, ap, ◌∙◌}
use mathlib.Core.List.{List, [], ◌∷◌, ◌++◌, append_assoc, append-nil}
use mathlib.Core.Bool.{Bool, true, false, ◌||◌}
use native.Mathlib.Omega.{arith}
use native.Mathlib.Nat.{add-zero}
use native.Mathlib.Numerals.{add-one}
use lib.Dec.{eqb}
use lib.ListN.{length, take, drop, set, drop_of_length-le}
use lib.Seq.{drop-cons, take-suc, take_all, split_at, set_split}
use borrow.Author.Tests.{eq-eqb, ne_eqb, eqb-true, eqb-false}
use Rattle.octets.specs.Numbers.{at}
use Rattle.octets.specs.Pick.{pick}
use Rattle.octets.proofs.Choices.{picked, passed}
use Rattle.picture_images.specs.Noted.{images_in, noted, holding, among, NotesOnce}

-- ---- an image is noted

-- the image stands nowhere before index i, and no place before it is free
module _ (places : List ℕ) (image i : ℕ) (so_far : noted places image ≡ take i places ++ noted (drop i places) image) where
  module _ (inside : i < length places) where
    abbrev rest : List ℕ
    rest = drop (suc i) places

    here : noted (drop i places) image
        ≡ pick (eqb (at places i) 0) ((image + 1) ∷ rest)
        (pick (eqb (at places i) (image + 1)) (at places i ∷ rest) (at places i ∷ noted rest image))
    unfolding noted
    here = ap (λ (l : List ℕ). noted l image) (drop-cons places i 0 inside)

    so : {l : List ℕ} → noted (drop i places) image ≡ l → noted places image ≡ take i places ++ l
    so e = so_far ∙ ap (λ (l : List ℕ). take i places ++ l) e

    pub put-here : at places i ≡ 0 → set places i (image + 1) ≡ noted places image
    put-here z = set_split places i (image + 1) inside ∙ sym (so (here ∙ sym (picked _ _ _ (eq-eqb _ _ z))))

    module _ (held : at places i ≡ 0 → ⊥) where
      pub held-here : at places i ≡ image + 1 → places ≡ noted places image
      held-here e =
          split_at places i 0 inside ∙ sym (so (here ∙ sym (passed _ _ _ _ (ne_eqb _ _ held) (picked _ _ _ (eq-eqb _ _ e)))))

      pub not_here : (at places i ≡ image + 1 → ⊥) → noted places image ≡ take (i + 1) places ++ noted (drop (i + 1) places) image
      not_here n =
          so (here ∙ sym (passed _ _ _ _ (ne_eqb _ _ held) (passed _ _ _ _ (ne_eqb _ _ n) refl)))
          ∙ sym (append_assoc (take i places) (at places i ∷ []) (noted rest image))
          ∙ ap (λ (l : List ℕ). l ++ noted rest image) (sym (take-suc places i 0 inside))
          ∙ ap (λ (k : ℕ). take k places ++ noted (drop k places) image) (sym (add-one i))

  pub none_free : length places ≤ i → places ≡ noted places image
  unfolding noted
  none_free h =
      sym (so_far ∙ ap (λ (l : List ℕ). take i places ++ noted l image) (drop_of_length-le places h) ∙ append-nil (take i places)
      ∙ take_all i places h)

-- ---- how many there are

-- none before place r is free, and it is, if it is there
pub known-at : (places : List ℕ) (r : ℕ) → r ≤ length places → ((k : ℕ) → k < r → at places k ≡ 0 → ⊥)
    → (r < length places → at places r ≡ 0) → r ≡ length (images_in places)
unfolding images_in
known-at [] r h f g = omega arith
known-at (p ∷ places) zero h f g = ap length (picked (eqb p 0) [] _ (eq-eqb p 0 (g (omega arith))))
known-at (p ∷ places) (suc r) h f g =
    ap suc (known-at places r (omega arith) (λ k l. f (suc k) (omega arith)) (λ l. g (omega arith)))
    ∙ ap length (passed (eqb p 0) [] _ ((p - 1) ∷ images_in places) (ne_eqb p 0 (f 0 (omega arith))) refl)

-- ---- which they are

held_first : (p : ℕ) (places : List ℕ) → images_in (suc p ∷ places) ≡ (suc p - 1) ∷ images_in places
unfolding images_in
held_first p places = sym (passed (eqb (suc p) 0) [] _ _ (ne_eqb (suc p) 0 (λ e. omega arith)) refl)

pub number_at : (places : List ℕ) (i : ℕ) → i < length (images_in places) → at (images_in places) i ≡ at places i - 1
unfolding images_in pick
number_at [] i h = absurd (omega arith)
number_at (zero ∷ places) i h = absurd (omega arith)
number_at (suc p ∷ places) zero h = ap (λ (l : List ℕ). at l 0) (held_first p places)
number_at (suc p ∷ places) (suc i) h =
    ap (λ (l : List ℕ). at l (suc i)) (held_first p places) ∙ number_at places i (omega (arith, ap length (held_first p places)))

pub images-inside : (places : List ℕ) → length (images_in places) ≤ length places
unfolding images_in pick
images-inside [] = omega arith
images-inside (zero ∷ places) = omega arith
images-inside (suc p ∷ places) = omega (arith, ap length (held_first p places), images-inside places)

-- ---- each once, in the order of coming

held-told : (images : List ℕ) (free : ℕ) → images_in (holding images free) ≡ images
unfolding images_in pick
held-told [] zero = refl
held-told [] (suc free) = refl
held-told (x ∷ xs) free =
    let n : eqb (x + 1) 0 ≡ false = ne_eqb (x + 1) 0 (λ e. omega arith) in
    let p : x + 1 - 1 ≡ x = omega arith in
    sym (passed (eqb (x + 1) 0) [] _ _ n refl)
    ∙ ap (λ (k : ℕ). k ∷ images_in (holding xs free)) p ∙ ap (λ (l : List ℕ). x ∷ l) (held-told xs free)

-- the first is the image, or it is not
module _ (x image : ℕ) (places : List ℕ) where
  not_free : eqb (x + 1) 0 ≡ false
  not_free = ne_eqb (x + 1) 0 (λ e. omega arith)

  first-is : x ≡ image → noted ((x + 1) ∷ places) image ≡ (x + 1) ∷ places
  unfolding noted
  first-is e =
      let f : eqb (x + 1) (image + 1) ≡ true = eq-eqb (x + 1) (image + 1) (omega arith) in
      sym (passed _ _ _ _ not_free (picked _ _ _ f))

  first_is_not : (x ≡ image → ⊥) → noted ((x + 1) ∷ places) image ≡ (x + 1) ∷ noted places image
  unfolding noted
  first_is_not n =
      let f : eqb (x + 1) (image + 1) ≡ false = ne_eqb (x + 1) (image + 1) (λ e. n (omega arith)) in
      sym (passed _ _ _ _ not_free (passed _ _ _ _ f refl))

-- what follows from the rest of them
module _ (x image : ℕ) (xs : List ℕ) (free : ℕ) where
  abbrev Noted : List ℕ → Type 0
  Noted images = noted (holding images (suc free)) image
      ≡ pick (among image images) (holding images (suc free)) (holding (images ++ (image ∷ [])) free)

  within : (c d : Bool) → d ≡ c → (x + 1) ∷ pick c (holding xs (suc free)) (holding (xs ++ (image ∷ [])) free)
      ≡ pick d ((x + 1) ∷ holding xs (suc free)) ((x + 1) ∷ holding (xs ++ (image ∷ [])) free)
  unfolding pick
  within true d f = picked d _ _ f
  within false d f = passed d _ _ _ f refl

  by_first : Noted xs → (b : Bool) → eqb x image ≡ b → Noted (x ∷ xs)
  by_first h true e =
      first-is x image (holding xs (suc free)) (eqb-true x image e) ∙ picked _ _ _ (ap (λ (c : Bool). c || among image xs) e)
  by_first h false e =
      first_is_not x image (holding xs (suc free)) (eqb-false x image e)
      ∙ ap (λ (l : List ℕ). (x + 1) ∷ l) h
      ∙ within (among image xs) (eqb x image || among image xs) (ap (λ (c : Bool). c || among image xs) e)

noted-held : (images : List ℕ) (free image : ℕ) → noted (holding images (suc free)) image
    ≡ pick (among image images) (holding images (suc free)) (holding (images ++ (image ∷ [])) free)
unfolding noted pick
noted-held [] free image = refl
noted-held (x ∷ xs) free image = by_first x image xs free (noted-held xs free image) (eqb x image) refl

pub notes-once : NotesOnce
notes-once = record { notes = noted-held; tells = held-told }
