-- Laws of refusal 4.
use Prim.Native.Nat.{ℕ, zero, suc, ◌≤◌, ◌<◌}
use native.Mathlib.Nat.{le_of_suc-le-suc, not-suc-le-zero}
use native.Mathlib.Omega.{arith}
use mathlib.Core.Path.{◌≡◌, refl, sym, ap, ◌∙◌}
use mathlib.Core.Bool.{Bool, true, false, not, ◌&&◌, ◌||◌}
use mathlib.Core.List.{List, [], ◌∷◌, map}
use lib.ListN.{length, get_or}
use lib.Dec.{ltb, leb}
use borrow.Author.Tests.{lt-ltb, le-ltb, le-leb, lt-leb, ltb-false}
use Rattle.octets.proofs.Tests.{or_left, or_right}
use Rattle.rules.specs.Channel.{allowed, length_in}
use Rattle.rules.specs.Bounds.{held_wrong}
use Rattle.session.specs.Channel.{channel_unsound, any_unsound, unsound}
use Rattle.session.specs.declared.Channel.{Channel}
use Rattle.session.specs.declared.Session.{Session}
use Rattle.session.proofs.Fitting.{not_allowed}

-- the length of an array of structs, as a struct's relation has it
map-length : {X Y : Type 0} (f : X → Y) (l : List X) → length (map f l) ≡ length l
map-length f [] = refl
map-length f (x ∷ xs) = ap suc (map-length f xs)

pub length_mapped : {X Y : Type 0} (f : X → Y) (l : List X) (n : ℕ) → length (map f l) ≡ n → length l ≡ n
length_mapped f l n p = sym (map-length f l) ∙ p

-- within the list it does not matter what stands beyond
pub within-list : (l : List Channel) (i : ℕ) (c d : Channel) → i < length l → get_or l i c ≡ get_or l i d
within-list [] i c d h = absurd (not-suc-le-zero h)
within-list (x ∷ l) zero c d h = refl
within-list (x ∷ l) (suc i) c d h = within-list l i c d (le_of_suc-le-suc h)

-- ---- a session

pub unsound-time : (s : Session) → 8 < s.t → unsound s ≡ true
unfolding unsound
unsound-time s h = simp (lt-ltb _ _ h)

pub unsound_channels : (s : Session) → s.t ≤ 8 → unsound s ≡ any_unsound s.channels
unfolding unsound
unsound_channels s h = simp (le-ltb _ _ h)

-- each channel of a sound session is sound
all_sound : (l : List Channel) (i : ℕ) (d : Channel) → i < length l → any_unsound l ≡ false → channel_unsound (get_or l i d) ≡ false
all_sound [] i d h e = absurd (not-suc-le-zero h)
all_sound (c ∷ l) zero d h e = or_left (channel_unsound c) (any_unsound l) e
all_sound (c ∷ l) (suc i) d h e = all_sound l i d (le_of_suc-le-suc h) (or_right (channel_unsound c) (any_unsound l) e)

pub sound-at : (s : Session) (i : ℕ) (d : Channel) → i < length s.channels → unsound s ≡ false → channel_unsound
    (get_or s.channels i d) ≡ false
unfolding unsound
sound-at s i d h e = all_sound s.channels i d h (or_right (ltb 8 s.t) (any_unsound s.channels) e)

-- ---- what is held

-- nothing held is never wrong
none : (b : Bool) (l : List ℕ) → held_wrong b 0 l ≡ false
unfolding held_wrong
none true l = refl
none false l = refl

pub none-wrong : (b : Bool) (n : ℕ) (l : List ℕ) → n ≡ 0 → held_wrong b n l ≡ false
none-wrong b n l e = ap (λ (k : ℕ). held_wrong b k l) e ∙ none b l

-- with something held, by the code's tests in their order
module _ (b : Bool) (n : ℕ) (l : List ℕ) (z : n ≡ 0 → ⊥) where
  some : held_wrong b n l ≡ ((ltb 250 n || not b) || (leb 6 n && (not (allowed (length_in l)) || leb (length_in l) n)))
  unfolding held_wrong
  some = go b
    where
      p : ltb 0 n ≡ true
      p = lt-ltb 0 n (omega (arith, z))

      go : (x : Bool) → held_wrong x n l ≡ ((ltb 250 n || not x) || (leb 6 n && (not (allowed (length_in l)) || leb (length_in l) n)))
      go true = refl
      go false = rw p

  pub wrong-at-once : (ltb 250 n || not b) ≡ true → held_wrong b n l ≡ true
  wrong-at-once e = some ∙ rw e

  module _ (e : (ltb 250 n || not b) ≡ false) where
    pub few-right : n < 6 → held_wrong b n l ≡ false
    few-right h = some ∙ rw (e, lt-leb 6 n h)

    pub length-wrong : 6 ≤ n → held_wrong b n l ≡ ((ltb (length_in l) 16 || ltb 251 (length_in l)) || leb (length_in l) n)
    length-wrong h = some ∙ rw (e, le-leb 6 n h, not_allowed (length_in l))

-- above 250 comes first
pub held-most : (b : Bool) (n : ℕ) (l : List ℕ) → held_wrong b n l ≡ false → n ≤ 250
unfolding held_wrong
held-most b n l e =
    ltb-false 250 n
    (or_left (ltb 250 n) (not b && ltb 0 n)
    (or_left (ltb 250 n || (not b && ltb 0 n)) (leb 6 n && (not (allowed (length_in l)) || leb (length_in l) n)) e))
