-- A reader that takes all bits one after another tells what stands between the flags.
use Prim.Native.Nat.{ℕ, suc, ◌+◌, ◌/◌, ◌%◌, ◌≤◌, ◌<◌, min}
use mathlib.Core.Path.{◌≡◌, refl, sym, ap, ap₂, ◌∙◌}
use mathlib.Core.Bool.{Bool, true, false, not, ◌&&◌, cond}
use mathlib.Core.List.{List, [], ◌∷◌, ◌++◌, append-nil, tail, drop_last, flat_map, map}
use native.Mathlib.Omega.{arith}
use native.Mathlib.Numerals.{add-one}
use lib.ListN.{length, take, length-take}
use lib.Dec.{eqb}
use borrow.Author.Tests.{lt-ltb, eq-eqb, ne_eqb, eqb-true, eqb-false}
use Rattle.octets.specs.Pick.{pick}
use Rattle.bits.specs.Rows.{ones}
use Rattle.answer.specs.Refusals.{stretch_octets, stretch_abandoned}
use Rattle.answer.specs.declared.Reason.TheVariants.{StretchOctets, StretchAbandoned}
use Rattle.stretch.specs.Stretch.{Stretch, found, unread, most_kept, clipped, told}
use Rattle.stretch.specs.declared.Found.TheVariants.{Nothing, Frame, Refused}
use Rattle.rawbits.specs.Recording.{pieces, stretches, abandoned, destuffed, octets_of, left, stretch_of}
use Rattle.rawbits.specs.Reader.{Standing, standing, row, added, stored, begun, fresh, ends, closed, five, after_one}
use Rattle.rawbits.specs.Reader.{after_zero, after}
use Rattle.rawbits.specs.Finding.{told_of}
use Rattle.rawbits.specs.declared.Row.{Row}
use Rattle.rawbits.specs.declared.Reader.{Reader}
use Rattle.rawbits.proofs.Pieces.{before, before-cons, before-append, ones-snoc, zero-piece, one_piece, seven_piece, flag-piece}
use Rattle.rawbits.proofs.Pieces.{last-piece, drop-last}
use Rattle.rawbits.proofs.Destuffing.{run_after, run-append, run-ones, run_led, destuffed-append, destuffed-ones, destuffed-one}
use Rattle.rawbits.proofs.Destuffing.{destuffed-zero, led_more, led_long, flag-short, destuffed-some, abandoned-ones, abandoned_six}
use Rattle.rawbits.proofs.Destuffing.{abandoned_led, abandoned_seven, abandoned-more}
use Rattle.rawbits.proofs.Holding.{length-low, Holds, holds-none, holds-begun, holds-few, holds-many, holds-most, holds-whole}
use Rattle.rawbits.proofs.Holding.{holds-octets, holds_more}

abbrev state : Bool → ℕ → Bool → ℕ → Row → Reader
state seen k lost m r = record { seen = seen; ones = k; abandoned = lost; mark = m; row = r }

-- How a reader stands behind the bits since the last flag: q, and a 0 and 1s that may yet begin a flag.
data Shape : Type 0 where
  -- only 1s, five at most
  bare : (k : ℕ) → k < 6 → (m : ℕ) (r : Row) (kept : List ℕ) → Holds r kept (ones k) → Shape
  -- abandoned, by the 1s that came last
  lost : (q : List Bool) → abandoned q ≡ true → 5 < run_after 0 q → (m : ℕ) (r : Row) (kept : List ℕ) → Holds r kept (destuffed 0 q) → Shape
  -- q, then a 0 and six 1s at most
  led : (q : List Bool) (k : ℕ) → k < 7 → (r : Row) (kept : List ℕ) → Holds r kept (destuffed 0 (q ++ false ∷ ones k)) → Shape

abbrev stands : Bool → Shape → Standing
stands z (bare k l m r kept h) = standing (state z k false m r) kept
stands z (lost q a l m r kept h) = standing (state z 7 true m r) kept
stands z (led q k l r kept h) = standing (state z k (abandoned q) (length (destuffed 0 q) % 8) r) kept

abbrev passed : Shape → List Bool
passed (bare k l m r kept h) = ones k
passed (lost q a l m r kept h) = q
passed (led q k l r kept h) = q

abbrev window : Shape → List Bool
window (bare k l m r kept h) = []
window (lost q a l m r kept h) = []
window (led q k l r kept h) = false ∷ ones k

-- ---- a bit leads on

data Step (z : Bool) (x : Shape) (b : Bool) : Type 0 where
  on : (y : Shape) → ends (stands z x).reader b ≡ false → after (stands z x) b ≡ stands z y
      → ((s : List Bool) → before (passed x) (pieces 0 (window x ++ b ∷ s)) ≡ before (passed y) (pieces 0 (window y ++ s))) → Step z x b
  stops : ends (stands z x).reader b ≡ true
      → told (closed (length (stands z x).kept) (stands z x).reader) (stands z x).kept ≡ cond z (map clipped (stretch_of (passed x))) []
      → ((s : List Bool) → before (passed x) (pieces 0 (window x ++ b ∷ s)) ≡ passed x ∷ pieces 0 s) → Step z x b

-- a 0 behind the bits p
module _ (p : List Bool) (r : Row) (kept : List ℕ) (h : Holds r kept (destuffed 0 p)) (t : Bool) (e : eqb (run_after 0 p) 5 ≡ t) where
  abbrev zero_row : Row
  zero_row = pick t r (added (length kept) r false)

  abbrev zero-kept : List ℕ
  zero-kept = pick t kept (stored r false kept)

  holds-zero : Holds zero_row zero-kept (destuffed 0 (p ++ false ∷ []))
  unfolding pick
  holds-zero = rw (destuffed-zero p (run_after 0 p) refl, e) (go t)
    where
      go : (t : Bool) → Holds (pick t r (added (length kept) r false)) (pick t kept (stored r false kept))
          (cond t (destuffed 0 p) (destuffed 0 p ++ false ∷ []))
      go true = h
      go false = holds_more h false

  abbrev behind-zero : Shape
  behind-zero = led p 0 (omega arith) zero_row zero-kept holds-zero

  zero-stands : (z ab : Bool) → ab ≡ abandoned p → standing (state z 0 ab r.begun zero_row) zero-kept ≡ stands z behind-zero
  zero-stands z ab f = ap₂ (λ (x : Bool) (n : ℕ). standing (state z 0 x n zero_row) zero-kept) f (holds-begun h)

module _ (z : Bool) where
  module _ (k : ℕ) (m : ℕ) (r : Row) (kept : List ℕ) where
    bare-one : k < 5 → (l : k < 6) (h : Holds r kept (ones k)) → Step z (bare k l m r kept h) true
    unfolding after after_one pick
    bare-one s l h =
        on (bare (suc k) (omega arith) m (added (length kept) r true) (stored r true kept) (rw (ones-snoc k) (holds_more h true))) refl
        (rw (lt-ltb k 5 s) (ap (λ (i : ℕ). standing (state z i false m (added (length kept) r true)) (stored r true kept)) (add-one k)))
        (λ t. sym (ap (λ (q : List Bool). before q (pieces 0 t)) (ones-snoc k) ∙ before-append (ones k) (true ∷ []) (pieces 0 t)))

  module _ (m : ℕ) (r : Row) (kept : List ℕ) where
    -- a sixth 1 that begins the stretch
    bare_six : (l : 5 < 6) (h : Holds r kept (ones 5)) → Step z (bare 5 l m r kept h) true
    unfolding after after_one pick
    bare_six l h =
        on (lost (ones 6) abandoned_six (omega arith) m (added (length kept) r true) (stored r true kept) (holds_more h true)) refl
        (rw (eq-eqb r.begun 5 (holds-begun h), eq-eqb r.whole 0 (holds-few h (omega arith)))) (λ t. refl)

    bare-zero : (k : ℕ) (l : k < 6) (h : Holds r kept (ones k)) → Step z (bare k l m r kept h) false
    unfolding after after_zero pick
    bare-zero k l h =
        let e : eqb (run_after 0 (ones k)) 5 ≡ eqb k 5 = ap (λ (n : ℕ). eqb n 5) (run-ones 0 k ∙ (let d : 0 + k ≡ k = omega arith in d)) in
        let g : Holds r kept (destuffed 0 (ones k)) = rw (destuffed-ones 0 k) h in
        on (behind-zero (ones k) r kept g (eqb k 5) e) (ne_eqb k 6 (λ d. omega arith))
        (zero-stands (ones k) r kept g (eqb k 5) e z false (sym (abandoned-ones k l))) (λ t. refl)

    lost-one : (q : List Bool) (a : abandoned q ≡ true) (l : 5 < run_after 0 q) (h : Holds r kept (destuffed 0 q)) → Step z
        (lost q a l m r kept h) true
    unfolding after after_one pick
    lost-one q a l h =
        on (lost (q ++ true ∷ []) (abandoned-more q (true ∷ []) a) (rw (run-append 0 q (true ∷ [])) (omega arith)) m
        (added (length kept) r true) (stored r true kept)
        (rw (destuffed-one q) (holds_more h true))) refl refl (λ t. sym (before-append q (true ∷ []) (pieces 0 t)))

    lost-zero : (q : List Bool) (a : abandoned q ≡ true) (l : 5 < run_after 0 q) (h : Holds r kept (destuffed 0 q)) → Step z
        (lost q a l m r kept h) false
    unfolding after after_zero pick
    lost-zero q a l h =
        let e : eqb (run_after 0 q) 5 ≡ false = ne_eqb (run_after 0 q) 5 (λ d. omega arith) in
        on (behind-zero q r kept h false e) refl (zero-stands q r kept h false e z true (sym a)) (λ t. refl)

  module _ (q : List Bool) (r : Row) (kept : List ℕ) where
    more : (k : ℕ) → Holds r kept (destuffed 0 (q ++ false ∷ ones k)) → Holds (added (length kept) r true) (stored r true kept)
        (destuffed 0 (q ++ false ∷ ones (suc k)))
    more k h = rw (led_more q k, destuffed-one (q ++ false ∷ ones k)) (holds_more h true)

    led_one : (k : ℕ) → k < 5 → (l : k < 7) (h : Holds r kept (destuffed 0 (q ++ false ∷ ones k))) → Step z (led q k l r kept h) true
    unfolding after after_one pick
    led_one k s l h =
        on (led q (suc k) (omega arith) (added (length kept) r true) (stored r true kept) (more k h)) (refl)
        (rw (lt-ltb k 5 s) (ap (λ (i : ℕ). standing (state z i (abandoned q) (length (destuffed 0 q) % 8) (added (length kept) r true))
        (stored r true kept)) (add-one k)))
        (λ t. one_piece q t k)

    led_six : (l : 5 < 7) (h : Holds r kept (destuffed 0 (q ++ false ∷ ones 5))) → Step z (led q 5 l r kept h) true
    unfolding after after_one pick
    led_six l h =
        on (led q 6 (omega arith) (added (length kept) r true) (stored r true kept) (more 5 h)) refl
        (rw (not_five h) refl) (λ t. refl)
      where
        not_five : Holds r kept (destuffed 0 (q ++ false ∷ ones 5)) → five r ≡ false
        not_five h = go (eqb r.whole 0) refl
          where
            go : (t : Bool) → eqb r.whole 0 ≡ t → (eqb r.begun 5 && t) ≡ false
            go true e = rw (ne_eqb r.begun 5 (λ d. omega (arith, holds-many h (eqb-true r.whole 0 e), led_long q 5)))
            go false e = no (eqb r.begun 5)
              where
                no : (x : Bool) → (x && false) ≡ false
                no true = refl
                no false = refl

    led_seven : (l : 6 < 7) (h : Holds r kept (destuffed 0 (q ++ false ∷ ones 6))) → Step z (led q 6 l r kept h) true
    unfolding after after_one pick
    led_seven l h =
        on (lost (q ++ false ∷ ones 7) (abandoned_seven q) (rw (run_led q 7) (omega arith)) (length (destuffed 0 q) % 8)
        (added (length kept) r true) (stored r true kept) (more 6 h)) refl
        refl (λ t. seven_piece q t)

    led_zero : (k : ℕ) → k < 6 → (l : k < 7) (h : Holds r kept (destuffed 0 (q ++ false ∷ ones k))) → Step z (led q k l r kept h) false
    unfolding after after_zero pick
    led_zero k s l h =
        let e : eqb (run_after 0 (q ++ false ∷ ones k)) 5 ≡ eqb k 5 = ap (λ (n : ℕ). eqb n 5) (run_led q k) in
        on (behind-zero (q ++ false ∷ ones k) r kept h (eqb k 5) e) (ne_eqb k 6 (λ d. omega arith))
        (zero-stands (q ++ false ∷ ones k) r kept h (eqb k 5) e z (abandoned q) (sym (abandoned_led q k l))) (λ t. zero-piece q t k s)

-- ---- a flag ends behind q

module _ (q : List Bool) (r : Row) (kept : List ℕ) (h : Holds r kept (destuffed 0 (q ++ false ∷ ones 6))) where
  -- what is told of whole octets
  tells-whole : length (destuffed 0 q) % 8 ≡ 0 → 0 < length (destuffed 0 q)
      → told (pick (eqb r.whole 0) Nothing (Frame (min r.whole (length kept)))) kept ≡ found
      (take most_kept (octets_of (destuffed 0 q))) ∷ []
  unfolding pick
  tells-whole w s =
      rw (ne_eqb r.whole 0 (λ e. omega
      (arith, is, length-take most_kept (octets_of (destuffed 0 q)), length-low (length (destuffed 0 q) / 8) (destuffed 0 q))))
      (ap (λ (n : ℕ). found (take n kept) ∷ [])
      (let d : min r.whole (length kept) ≡ r.whole = omega (arith, holds-most h, h.room) in d)
      ∙ ap (λ (s : List ℕ). found s ∷ [])
      (holds-octets h (destuffed 0 q) _ (destuffed-append 0 q (false ∷ ones 6)) w (flag-short (run_after 0 q))))
    where
      is : r.whole ≡ length (take most_kept (octets_of (destuffed 0 q)))
      is = holds-whole h (destuffed 0 q) _ (destuffed-append 0 q (false ∷ ones 6)) w (flag-short (run_after 0 q))

  -- of all that is left of the stretch
  tells-left : 0 < length (destuffed 0 q)
      → told (pick (not (eqb (length (destuffed 0 q) % 8) 0)) (Refused StretchOctets)
      (pick (eqb r.whole 0) Nothing (Frame (min r.whole (length kept))))) kept
      ≡ clipped (left (destuffed 0 q)) ∷ []
  unfolding pick left
  tells-left s = go (eqb (length (destuffed 0 q) % 8) 0) refl
    where
      go : (t : Bool) → eqb (length (destuffed 0 q) % 8) 0 ≡ t
          → told (pick (not t) (Refused StretchOctets) (pick (eqb r.whole 0) Nothing (Frame (min r.whole (length kept))))) kept
          ≡ clipped (pick t (found (octets_of (destuffed 0 q))) (unread stretch_octets)) ∷ []
      go true e = tells-whole (eqb-true _ _ e) s
      go false e = refl

tells : (z : Bool) (q : List Bool) (r : Row) (kept : List ℕ) → Holds r kept (destuffed 0 (q ++ false ∷ ones 6))
    → told (closed (length kept) (state z 6 (abandoned q) (length (destuffed 0 q) % 8) r)) kept ≡ cond z (map clipped (stretch_of q)) []
unfolding closed pick stretch_of
tells false q r kept h = refl
tells true [] r kept h = rw (unabandoned, none) refl
  where
    unabandoned : abandoned [] ≡ false
    unabandoned = abandoned-ones 0 (omega arith)

    none : eqb r.whole 0 ≡ true
    none = eq-eqb r.whole 0 (holds-few h (omega arith))
tells true (b ∷ q) r kept h = go (abandoned (b ∷ q))
  where
    go : (t : Bool)
        → told
        (pick t (Refused StretchAbandoned)
        (pick (not (eqb (length (destuffed 0 (b ∷ q)) % 8) 0)) (Refused StretchOctets)
        (pick (eqb r.whole 0) Nothing (Frame (min r.whole (length kept)))))) kept
        ≡ clipped (pick t (unread stretch_abandoned) (left (destuffed 0 (b ∷ q)))) ∷ []
    go true = refl
    go false = tells-left (b ∷ q) r kept h (destuffed-some b q)

led_flag : (z : Bool) (q : List Bool) (r : Row) (kept : List ℕ) (l : 6 < 7) (h : Holds r kept (destuffed 0 (q ++ false ∷ ones 6))) → Step z
    (led q 6 l r kept h) false
led_flag z q r kept l h = stops refl (tells z q r kept h) (λ s. flag-piece q s)

-- n, or fewer
fewer : (P : ℕ → Type 0) (n k : ℕ) → P n → (k < n → P k) → k ≤ n → P k
fewer P n k p q h = go (eqb k n) refl
  where
    go : (t : Bool) → eqb k n ≡ t → P k
    go true e = rw (eqb-true k n e) p
    go false e = q (omega (arith, eqb-false k n e))

step : (z : Bool) (x : Shape) (b : Bool) → Step z x b
step z (bare k l m r kept h) true =
    fewer (λ (j : ℕ). (l : j < 6) (h : Holds r kept (ones j)) → Step z (bare j l m r kept h) true) 5 k
    (bare_six z m r kept) (λ s. bare-one z k m r kept s) (omega arith) l h
step z (bare k l m r kept h) false = bare-zero z m r kept k l h
step z (lost q a l m r kept h) true = lost-one z m r kept q a l h
step z (lost q a l m r kept h) false = lost-zero z m r kept q a l h
step z (led q k l r kept h) true =
    fewer (λ (j : ℕ). (l : j < 7) (h : Holds r kept (destuffed 0 (q ++ false ∷ ones j))) → Step z (led q j l r kept h) true) 6 k
    (led_seven z q r kept)
    (λ s. fewer (λ (j : ℕ). (l : j < 7) (h : Holds r kept (destuffed 0 (q ++ false ∷ ones j))) → Step z (led q j l r kept h) true) 5 k
    (led_six z q r kept) (λ s. led_one z q r kept k s) (omega arith)) (omega arith) l h
step z (led q k l r kept h) false =
    fewer (λ (j : ℕ). (l : j < 7) (h : Holds r kept (destuffed 0 (q ++ false ∷ ones j))) → Step z (led q j l r kept h) false) 6 k
    (led_flag z q r kept) (λ s. led_zero z q r kept k s) (omega arith) l h

-- ---- all bits

-- the stretches: with a flag seen all pieces but the last, else not the first either
abbrev shown : Bool → List (List Bool) → List Stretch
shown z ps = map clipped (flat_map stretch_of (cond z (drop_last ps) (drop_last (tail ps))))

one_left : (z : Bool) (p : List Bool) → shown z (p ∷ []) ≡ []
unfolding flat_map
one_left true p = refl
one_left false p = refl

none_more : (z : Bool) (x : Shape) → pieces 0 (window x) ≡ window x ∷ []
none_more z (bare k l m r kept h) = refl
none_more z (lost q a l m r kept h) = refl
none_more z (led q k l r kept h) = last-piece k l

map-append : (xs ys : List Stretch) → map clipped (xs ++ ys) ≡ map clipped xs ++ map clipped ys
map-append [] ys = refl
map-append (x ∷ xs) ys = ap (λ (r : List Stretch). clipped x ∷ r) (map-append xs ys)

-- behind a flag
behind-flag : (z : Bool) (p s : List Bool) (r : List Stretch) → r ≡ shown true (pieces 0 s)
    → cond z (map clipped (stretch_of p)) [] ++ r ≡ shown z (p ∷ pieces 0 s)
unfolding flat_map
behind-flag false p s r e = e
behind-flag true p s r e =
    ap (λ (q : List Stretch). map clipped (stretch_of p) ++ q) e ∙ sym (map-append (stretch_of p) (flat_map stretch_of (drop_last (pieces 0 s))))
    ∙ sym (ap (λ (ps : List (List Bool)). map clipped (flat_map stretch_of ps)) (drop-last p s))

fresh_at : (z : Bool) (x : Shape) → Holds (row 0 0 0) (stands z x).kept []
fresh_at z (bare k l m r kept h) = holds-none kept h.room
fresh_at z (lost q a l m r kept h) = holds-none kept h.room
fresh_at z (led q k l r kept h) = holds-none kept h.room

fold : (s : List Bool) (z : Bool) (x : Shape) → told_of (stands z x) s ≡ shown z (before (passed x) (pieces 0 (window x ++ s)))
unfolding told_of pick
fold [] z x =
    sym (ap (λ (w : List Bool). shown z (before (passed x) (pieces 0 w))) (append-nil (window x))
    ∙ ap (λ (ps : List (List Bool)). shown z (before (passed x) ps)) (none_more z x)
    ∙ ap (shown z) (before-cons (passed x) (window x) []) ∙ one_left z (passed x ++ window x))
fold (b ∷ s) z x = go (step z x b) (fold s)
  where
    go : Step z x b → ((z : Bool) (y : Shape) → told_of (stands z y) s ≡ shown z (before (passed y) (pieces 0 (window y ++ s))))
        → told_of (stands z x) (b ∷ s) ≡ shown z (before (passed x) (pieces 0 (window x ++ b ∷ s)))
    go (on y n e f) rec = rw (n, e) (rec z y ∙ ap (shown z) (sym (f s)))
    go (stops n t f) rec =
        rw n
        (ap (λ (q : List Stretch). q ++ told_of (standing (begun true) (stands z x).kept) s) t
        ∙ behind-flag z (passed x) s _ (rec true (bare 0 (omega arith) 0 (row 0 0 0) (stands z x).kept (fresh_at z x)))
        ∙ ap (shown z) (sym (f s)))

-- THE law: a new reader in fixed memory tells the stretches of all bits, however many
pub fresh-tells : (kept : List ℕ) (s : List Bool) → length kept ≡ most_kept → told_of (standing fresh kept) s ≡ map clipped
    (flat_map stretch_of (stretches s))
fresh-tells kept s l = fold s false (bare 0 (omega arith) 0 (row 0 0 0) kept (holds-none kept l))
