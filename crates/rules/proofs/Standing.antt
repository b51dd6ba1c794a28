-- What a packet's octets so far amount to.
use mathlib.Core.Path.{◌≡◌, refl, sym, ap, ◌∙◌}
use mathlib.Core.List.{List, [], ◌∷◌, ◌++◌}
use mathlib.Core.Bool.{Bool, true, false}
use Prim.Native.Nat.{ℕ, suc, ◌+◌, ◌≤◌, ◌<◌}
use native.Mathlib.Omega.{arith}
use lib.ListN.{length, length-append, get_or-append}
use lib.Dec.{leb}
use borrow.Author.Tests.{lt-ltb, leb-true, leb-false, eq-eqb, ne_eqb}
use Rattle.octets.specs.Numbers.{at}
use Rattle.rules.specs.Channel.{Standing, unfinished, whole, wrong, standing, length_in, sixth}
use Rattle.rules.specs.Packets.{Good}

-- m at most n or past it, with what the test says
pub data Order (m n : ℕ) : Type 0 where
  up_to : m ≤ n → leb m n ≡ true → Order m n
  past : n < m → leb m n ≡ false → Order m n

pub order : (m n : ℕ) → Order m n
order m n = go (leb m n) refl
  where
    go : (b : Bool) → leb m n ≡ b → Order m n
    go true e = up_to (leb-true m n e) e
    go false e = past (leb-false m n e) e

-- the first six octets say the length
pub length-said : (h r p : List ℕ) → h ++ r ≡ p → 6 ≤ length h → length_in h ≡ length_in p
length-said h r p e k =
    let four : at p 4 ≡ at h 4 = rw (← e) (get_or-append h r 0 4 (omega arith)) in
    let five : at p 5 ≡ at h 5 = rw (← e) (get_or-append h r 0 5 (omega arith)) in
    rw (four, five)

pub says : (p : List ℕ) → Good p → length_in p ≡ length p
says p g = omega (arith, g.says, g.least)

-- the four cases of a standing
pub data View (h : List ℕ) : Type 0 where
  short : length h < 6 → standing h ≡ unfinished → View h
  more : 6 ≤ length h → 16 ≤ length_in h → length_in h ≤ 251 → length h < length_in h → standing h ≡ unfinished → View h
  done : 6 ≤ length h → 16 ≤ length_in h → length_in h ≤ 251 → length_in h ≤ length h → standing h ≡ whole → View h
  bad : 6 ≤ length h → (16 ≤ length_in h → length_in h ≤ 251 → ⊥) → standing h ≡ wrong → View h

pub view : (h : List ℕ) → View h
unfolding standing
view h = go (order (suc (length h)) 6) (order 16 (length_in h)) (order (length_in h) 251) (order (suc (length h)) (length_in h))
  where
    go : Order (suc (length h)) 6 → Order 16 (length_in h) → Order (length_in h) 251 → Order (suc (length h)) (length_in h) → View h
    go (up_to a p) o q s = short a (rw p)
    go (past a p) (past b q) o s = bad (omega arith) (λ l m. omega arith) (rw (p, q))
    go (past a p) (up_to b q) (past c r) s = bad (omega arith) (λ l m. omega arith) (rw (p, q, r))
    go (past a p) (up_to b q) (up_to c r) (up_to d t) = more (omega arith) b c d (rw (p, q, r, t))
    go (past a p) (up_to b q) (up_to c r) (past d t) = done (omega arith) b c (omega arith) (rw (p, q, r, t))

-- one standing at a time
pub not_whole : {A : Type 0} {s : Standing} → s ≡ unfinished → s ≡ whole → A
not_whole p q = let z : ◌≡◌ {A = ℕ} 0 1 = cc in absurd (omega arith)

pub not_wrong : {A : Type 0} {s : Standing} → s ≡ unfinished → s ≡ wrong → A
not_wrong p q = let z : ◌≡◌ {A = ℕ} 0 1 = cc in absurd (omega arith)

pub not_both : {A : Type 0} {s : Standing} → s ≡ wrong → s ≡ whole → A
not_both p q = let z : ◌≡◌ {A = ℕ} 0 1 = cc in absurd (omega arith)

-- the standing by the orders that code tests
pub standing-short : (h : List ℕ) → length h < 6 → standing h ≡ unfinished
unfolding standing
standing-short h l = rw (lt-ltb (length h) 6 l)

pub standing-part : (h : List ℕ) → 16 ≤ length_in h → length_in h ≤ 251 → length h < length_in h → standing h ≡ unfinished
standing-part h k l m = go (view h)
  where
    go : View h → standing h ≡ unfinished
    go (short a e) = e
    go (more a b c d e) = e
    go (done a b c d e) = absurd (omega arith)
    go (bad a n e) = absurd (n k l)

pub standing-full : (h : List ℕ) → 16 ≤ length_in h → length_in h ≤ 251 → length_in h ≤ length h → standing h ≡ whole
standing-full h k l m = go (view h)
  where
    go : View h → standing h ≡ whole
    go (short a e) = absurd (omega arith)
    go (more a b c d e) = absurd (omega arith)
    go (done a b c d e) = e
    go (bad a n e) = absurd (n k l)

pub empty-unfinished : standing [] ≡ unfinished
unfolding standing
empty-unfinished = refl

-- h of a good packet p, of which r is left
module _ (h r p : List ℕ) (e : h ++ r ≡ p) (g : Good p) where
  sum-lengths : length h + length r ≡ length p
  sum-lengths = sym (length-append h r) ∙ ap length e

  pub standing-whole : length r ≡ 0 → standing h ≡ whole
  standing-whole z =
      let said : length_in h ≡ length p = length-said h r p e (omega (arith, sum-lengths, g.least)) ∙ says p g in
      standing-full h (omega (arith, g.least)) (omega (arith, g.greatest)) (omega (arith, sum-lengths))

  pub standing-unfinished : 0 < length r → standing h ≡ unfinished
  standing-unfinished z = go (order 6 (length h))
    where
      go : Order 6 (length h) → standing h ≡ unfinished
      go (past k t) = standing-short h k
      go (up_to k t) =
          let said : length_in h ≡ length p = length-said h r p e k ∙ says p g in
          standing-part h (omega (arith, g.least)) (omega (arith, g.greatest)) (omega (arith, sum-lengths))

-- one octet more makes a whole packet of exactly the length that it says
pub whole-good : (h : List ℕ) (x : ℕ) → standing h ≡ unfinished → standing (h ++ x ∷ []) ≡ whole → Good (h ++ x ∷ [])
whole-good h x u w = go (view h) (view (h ++ x ∷ []))
  where
    len : length (h ++ x ∷ []) ≡ length h + 1
    len = length-append h (x ∷ [])

    go : View h → View (h ++ x ∷ []) → Good (h ++ x ∷ [])
    go v (short a e) = not_whole e w
    go v (more a b c d e) = not_whole e w
    go v (bad a n e) = not_both e w
    go (short a e) (done a' b c d e') = absurd (omega (arith, len))
    go (more a b c d e) (done a' b' c' d' e') =
        let same : length_in h ≡ length_in (h ++ x ∷ []) = length-said h (x ∷ []) (h ++ x ∷ []) refl a in
        record { least = omega arith; greatest = omega (arith, len); says = omega (arith, len) }
    go (done a b c d e) (done a' b' c' d' e') = not_whole u e
    go (bad a n e) (done a' b' c' d' e') = not_wrong u e

-- whether the next octet is the sixth
pub sixth-here : (s : List ℕ) (n : ℕ) → length s ≡ 5 → sixth s n ≡ suc n
sixth-here s n e = rw (eq-eqb (length s) 5 e)

pub sixth_else : (s : List ℕ) (n : ℕ) → (length s ≡ 5 → ⊥) → sixth s n ≡ n
sixth_else s n e = rw (ne_eqb (length s) 5 e)
