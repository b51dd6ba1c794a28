-- The bounds of a step, and that a sound channel stays sound.
use mathlib.Core.Path.{◌≡◌, refl}
use mathlib.Core.List.{List, [], ◌∷◌, ◌++◌}
use mathlib.Core.Bool.{Bool, true, false, not, ◌&&◌, ◌||◌, cond}
use Prim.Native.Nat.{ℕ, zero, suc, ◌+◌, ◌-◌, ◌*◌, ◌≤◌, ◌<◌}
use native.Mathlib.Omega.{arith}
use lib.ListN.{length, take, drop, length-append, length-take, take-append-drop}
use lib.Dec.{ltb, leb}
use borrow.Author.Tests.{lt-ltb, le-ltb, le-leb, lt-leb, ltb-false, leb-true, leb-false, not-false}
use Rattle.octets.proofs.Tests.{or_left, or_right, and_true_left, and_true_right}
use Rattle.rules.specs.Channel.{unfinished, standing, allowed, length_in}
use Rattle.rules.specs.Channel.{sixth}
use Rattle.rules.specs.Packets.{Good}
use Rattle.rules.specs.Bounds.{held_wrong, Sound, PassingSound, SoundPassing, FreshSound}
use Rattle.rules.proofs.Standing.{Order, up_to, past, order, sixth-here, sixth_else, View, short, more, done, bad, view, not_whole}
use Rattle.rules.proofs.Standing.{not_wrong, length-said, standing-short, standing-part, empty-unfinished}

-- ---- sound channels

pub fresh-sound : FreshSound
fresh-sound = refl

pub sound-standing : (b : Bool) (h : List ℕ) → Sound b h → standing h ≡ unfinished
sound-standing true h s = s
sound-standing false h s = rw s empty-unfinished

pub sound-held : (b : Bool) (h : List ℕ) → Sound b h → length h ≤ 250
sound-held b h s = go (view h)
  where
    go : View h → length h ≤ 250
    go (short a e) = omega arith
    go (more a b c d e) = omega arith
    go (done a b' c d e) = not_whole (sound-standing b h s) e
    go (bad a n e) = not_wrong (sound-standing b h s) e

held_out : (b : Bool) (h : List ℕ) → Sound b h → (not b && ltb 0 (length h)) ≡ false
held_out true h s = refl
held_out false h s = rw s

pub sound-passing : SoundPassing
unfolding held_wrong
sound-passing b h r s = go (view h)
  where
    go : View h → held_wrong b (length h) (h ++ r) ≡ false
    go (short a e) = rw (le-ltb 250 (length h) (omega arith), held_out b h s, le-ltb 5 (length h) (omega arith))
    go (more a c d f e) =
        let same : length_in h ≡ length_in (h ++ r) = length-said h r (h ++ r) refl a in
        rw (
          ← same,
          le-ltb 250 (length h) (omega arith),
          held_out b h s,
          le-leb 6 (length h) a,
          le-leb 16 (length_in h) c,
          le-leb (length_in h) 251 d,
          lt-leb (length_in h) (length h) f,
        )
    go (done a c d f e) = not_whole (sound-standing b h s) e
    go (bad a n e) = not_wrong (sound-standing b h s) e

none-held : (n : ℕ) (h : List ℕ) → ltb 0 n ≡ false → take n h ≡ []
none-held zero h e = refl
none-held (suc n) h e = absurd (omega (arith, ltb-false 0 (suc n) e))

part-unfinished : (n : ℕ) (h : List ℕ) → 16 ≤ length_in h → length_in h ≤ 251 → n < length_in h → standing (take n h) ≡ unfinished
part-unfinished n h k l m = go (order 6 (length (take n h)))
  where
    go : Order 6 (length (take n h)) → standing (take n h) ≡ unfinished
    go (past q t) = standing-short (take n h) q
    go (up_to q t) =
        let same : length_in (take n h) ≡ length_in h = length-said (take n h) (drop n h) h (take-append-drop n h) q in
        let few : length (take n h) ≤ n = simp length-take (omega arith) in
        standing-part (take n h) (omega arith) (omega arith) (omega arith)

length-passes : (n : ℕ) (h : List ℕ) → (leb 6 n && (not (allowed (length_in h)) || leb (length_in h) n)) ≡ false → standing
    (take n h) ≡ unfinished
length-passes n h e = go (order 6 n)
  where
    few : length (take n h) ≤ n
    few = simp length-take (omega arith)

    go : Order 6 n → standing (take n h) ≡ unfinished
    go (past l t) = standing-short (take n h) (omega (arith, few))
    go (up_to l t) =
        let rest : (not (allowed (length_in h)) || leb (length_in h) n) ≡ false = rw t at e in
        let size : allowed (length_in h) ≡ true = not-false (allowed (length_in h))
        (or_left (not (allowed (length_in h))) (leb (length_in h) n) rest) in
        part-unfinished n h
        (leb-true 16 (length_in h) (and_true_left (leb 16 (length_in h)) (leb (length_in h) 251) size))
        (leb-true (length_in h) 251 (and_true_right (leb 16 (length_in h)) (leb (length_in h) 251) size))
        (leb-false (length_in h) n (or_right (not (allowed (length_in h))) (leb (length_in h) n) rest))

pub passing-sound : PassingSound
unfolding held_wrong
passing-sound true n h e = length-passes n h (or_right (ltb 250 n || (not true && ltb 0 n)) _ e)
passing-sound false n h e = none-held n h (or_right (ltb 250 n) _ (or_left (ltb 250 n || (not false && ltb 0 n)) _ e))

-- ---- headers: sixteen octets for each, of which what is held is worth so many

unfoldable pub credit : ℕ → ℕ
credit n = cond (ltb n 6) (10 + n) (n - 6 - (n - 15))

credit_low : (n : ℕ) → n < 6 → credit n ≡ 10 + n
unfolding credit
credit_low n l = rw (lt-ltb n 6 l)

credit_high : (n : ℕ) → 6 ≤ n → credit n ≡ n - 6 - (n - 15)
unfolding credit
credit_high n l = rw (le-ltb n 6 l)

abbrev pub spare : Bool → List ℕ → ℕ
spare true h = credit (length h)
spare false h = 0

pub spare_most : (b : Bool) (h : List ℕ) → spare b h ≤ 15
spare_most false h = omega arith
spare_most true h = go (order 6 (length h))
  where
    go : Order 6 (length h) → credit (length h) ≤ 15
    go (up_to l t) = omega (arith, credit_high (length h) l)
    go (past l t) = omega (arith, credit_low (length h) l)

-- an octet more: below the sixth, the sixth, behind it
pub credit_on : (h : List ℕ) (x n : ℕ) → 16 * sixth h n + credit (length (h ++ x ∷ [])) ≤ 16 * n + credit (length h) + 1
credit_on h x n = go (order 6 (length h)) (order 5 (length h))
  where
    len : length (h ++ x ∷ []) ≡ length h + 1
    len = length-append h (x ∷ [])

    go : Order 6 (length h) → Order 5 (length h) → 16 * sixth h n + credit (length (h ++ x ∷ [])) ≤ 16 * n + credit (length h) + 1
    go (up_to l t) o =
        omega (
          arith,
          len,
          sixth_else h n (λ e. omega arith),
          credit_high (length h) l,
          credit_high (length (h ++ x ∷ []))
              (omega (arith, len)),
        )
    go (past l t) (up_to k u) =
        omega (arith, len, sixth-here h n (omega arith), credit_low (length h) l, credit_high (length (h ++ x ∷ [])) (omega (arith, len)))
    go (past l t) (past k u) =
        omega (
          arith,
          len,
          sixth_else h n (λ e. omega arith),
          credit_low (length h) l,
          credit_low (length (h ++ x ∷ []))
              (omega (arith, len)),
        )

-- a whole packet's last octet
pub credit_done : (h : List ℕ) (x n : ℕ) → Good (h ++ x ∷ []) → 16 * sixth h n + credit 0 ≤ 16 * n + credit (length h) + 1
credit_done h x n g =
    let len : length (h ++ x ∷ []) ≡ length h + 1 = length-append h (x ∷ []) in
    omega (
      arith,
      len,
      g.least,
      sixth_else h n (λ e. omega (arith, len, g.least)),
      credit_low 0 (omega arith),
      credit_high (length h)
          (omega (arith, len, g.least)),
    )
