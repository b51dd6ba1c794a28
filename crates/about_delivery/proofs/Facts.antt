-- Facts on pointers, rule 3's check and lists of frames.
use mathlib.Core.Path.{◌≡◌, refl, sym, ap, ◌∙◌}
use mathlib.Core.List.{List, [], ◌∷◌, ◌++◌, append_assoc}
use mathlib.Core.Bool.{Bool, true, false, ◌&&◌, and-true, and_assoc}
use Prim.Native.Nat.{ℕ, zero, suc, ◌+◌, ◌-◌, ◌≤◌, ◌<◌}
use native.Mathlib.Omega.{arith}
use lib.ListN.{length, get_or, take, drop, length-append, length-take, get_or-append}
use lib.Seq.{slice, take-suc, take-append-add, get_or-take, drop-append-le, length-take-le}
use lib.Dec.{eqb}
use borrow.Author.Tests.{lt-ltb, le-ltb, le-leb, eq-eqb, ne_eqb}
use Rattle.octets.specs.Numbers.{at}
use Rattle.rules.specs.Channel.{place_after, length_holds, length_in, fits, pointer_to}
use Rattle.rules.specs.Packets.{Good, joined}
use Rattle.rules.proofs.Standing.{Order, up_to, past, order, says}
use Rattle.about_delivery.specs.Link.{Fate}
use Rattle.about_delivery.specs.Expected.{is_got, all_got, nowhere, carries}
use Rattle.sender.proofs.Sending.{next_piece}

-- ---- rule 3's check passes where nothing was lost

same-octets : (h r p s : List ℕ) (n i : ℕ) → h ++ r ≡ p → i < length (h ++ take n (r ++ s)) → i < length p
    → at (h ++ take n (r ++ s)) i ≡ at p i
same-octets h r p s n i e k l =
    let long : length (h ++ take n (r ++ s)) ≤ length h + n = simp (length-append, length-take) (omega arith) in
    let all : h ++ take n (r ++ s) ≡ take (length h + n) (p ++ s) =
    sym (take-append-add h (r ++ s) n) ∙ ap (take (length h + n)) (sym (append_assoc h r s) ∙ ap (λ (l : List ℕ). l ++ s) e) in
    ap (λ (l : List ℕ). at l i) all ∙ get_or-take (length h + n) (p ++ s) i 0 (omega arith) ∙ get_or-append p s 0 i l

pub fits-between : (xs : List ℕ) → fits [] (pointer_to 0 (length xs)) xs ≡ true
unfolding place_after length_holds
fits-between xs = eq-eqb (pointer_to 0 (length xs)) _ refl

module _ (x : ℕ) (h r p s : List ℕ) (n : ℕ) (e : (x ∷ h) ++ r ≡ p) (g : Good p) where
  abbrev here : List ℕ
  here = take n (r ++ s)

  sums : length (x ∷ h) + length r ≡ length p
  sums = sym (length-append (x ∷ h) r) ∙ ap length e

  long-sum : length ((x ∷ h) ++ here) ≡ length (x ∷ h) + length here
  long-sum = length-append (x ∷ h) here

  fits-short : length ((x ∷ h) ++ here) < 6 → fits (x ∷ h) (pointer_to (length r) (length here)) here ≡ true
  unfolding place_after length_holds
  fits-short k =
      rw (
        lt-ltb (length ((x ∷ h) ++ here)) 6 k,
        le-ltb (length here) (length here) (omega arith),
        le-ltb (length r) (length here) (omega (arith, sums, long-sum, g.least)),
      )

  fits-long : 6 ≤ length ((x ∷ h) ++ here) → fits (x ∷ h) (pointer_to (length r) (length here)) here ≡ true
  unfolding place_after length_holds
  fits-long k =
      let four = same-octets (x ∷ h) r p s n 4 e (omega arith) (omega (arith, g.least)) in
      let five = same-octets (x ∷ h) r p s n 5 e (omega arith) (omega (arith, g.least)) in
      let said : length_in ((x ∷ h) ++ here) ≡ length p = rw (four, five) (says p g) in
      let place : length p - length (x ∷ h) ≡ length r = omega (arith, sums) in
      rw (le-ltb (length ((x ∷ h) ++ here)) 6 k, said, le-leb 16 (length p) g.least, le-leb (length p) 251 g.greatest, place)
      (eq-eqb (pointer_to (length r) (length here)) _ refl)

  pub fits-inside : fits (x ∷ h) (pointer_to (length r) (length here)) here ≡ true
  fits-inside = go (order 6 (length ((x ∷ h) ++ here)))
    where
      go : Order 6 (length ((x ∷ h) ++ here)) → fits (x ∷ h) (pointer_to (length r) (length here)) here ≡ true
      go (past k t) = fits-short k
      go (up_to k t) = fits-long k

pub fits-held : (h r p s : List ℕ) (n : ℕ) → 0 < length h → h ++ r ≡ p → Good p
    → fits h (pointer_to (length r) (length (take n (r ++ s)))) (take n (r ++ s)) ≡ true
fits-held [] r p s n l e g = absurd (omega arith)
fits-held (x ∷ h) r p s n l e g = fits-inside x h r p s n e g

-- ---- pointers

pub pointer_none : (m n : ℕ) → n ≤ m → pointer_to m n ≡ 255
pointer_none m n k = rw (le-ltb m n k)

pub pointer-some : (m n : ℕ) → m < n → pointer_to m n ≡ m
pointer-some m n k = rw (lt-ltb m n k)

pub not_raw : (m n : ℕ) → n ≤ 251 → eqb (pointer_to m n) 254 ≡ false
not_raw m n k = go (order (suc m) n)
  where
    go : Order (suc m) n → eqb (pointer_to m n) 254 ≡ false
    go (up_to l t) = rw t (ne_eqb m 254 (λ e. omega arith))
    go (past l t) = rw t

pub carries-next : (c : ℕ) (r : List ℕ) (ps : List (List ℕ)) (n : ℕ) → length (take n (r ++ joined ps)) ≤ 251
    → carries (next_piece c r ps n) ≡ length (take n (r ++ joined ps))
carries-next c r ps n k = rw (not_raw (length r) (length (take n (r ++ joined ps))) k)

-- ---- frames from i to k

pub nil-cons {ℓ} : {A : Type ℓ} {x : A} {l : List A} → [] ≡ x ∷ l → ⊥
nil-cons e = let z : ◌≡◌ {A = ℕ} 0 1 = cc in omega arith

all-got-append : (l m : List Fate) → all_got (l ++ m) ≡ all_got l && all_got m
all-got-append [] m = refl
all-got-append (s ∷ l) m = ap (λ (b : Bool). is_got s && b) (all-got-append l m) ∙ sym (and_assoc (is_got s) (all_got l) (all_got m))

pub got-step : (ss : List Fate) (i k : ℕ) → i ≤ k → k < length ss
    → all_got (slice i (suc k) ss) ≡ all_got (slice i k ss) && is_got (get_or ss k nowhere)
got-step ss i k h l =
    let len : length (take k ss) ≡ k = length-take-le k ss (omega arith) in
    let cut : slice i (suc k) ss ≡ slice i k ss ++ get_or ss k nowhere ∷ [] =
    ap (drop i) (take-suc ss k nowhere l) ∙ drop-append-le i (take k ss) (get_or ss k nowhere ∷ []) (omega arith) in
    ap all_got cut ∙ all-got-append (slice i k ss) (get_or ss k nowhere ∷ [])
    ∙ ap (λ (b : Bool). all_got (slice i k ss) && b) (and-true (is_got (get_or ss k nowhere)))

pub drop_suc : (ss : List Fate) (k : ℕ) (s : Fate) (t : List Fate) → drop k ss ≡ s ∷ t → drop (suc k) ss ≡ t
drop_suc [] zero s t e = absurd (nil-cons e)
drop_suc [] (suc k) s t e = absurd (nil-cons e)
drop_suc (x ∷ ss) zero s t e = cc
drop_suc (x ∷ ss) (suc k) s t e = drop_suc ss k s t e

pub drop_get : (ss : List Fate) (k : ℕ) (s : Fate) (t : List Fate) → drop k ss ≡ s ∷ t → get_or ss k nowhere ≡ s
drop_get [] zero s t e = absurd (nil-cons e)
drop_get [] (suc k) s t e = absurd (nil-cons e)
drop_get (x ∷ ss) zero s t e = cc
drop_get (x ∷ ss) (suc k) s t e = drop_get ss k s t e

pub drop-lt : (ss : List Fate) (k : ℕ) (s : Fate) (t : List Fate) → drop k ss ≡ s ∷ t → k < length ss
drop-lt [] zero s t e = absurd (nil-cons e)
drop-lt [] (suc k) s t e = absurd (nil-cons e)
drop-lt (x ∷ ss) zero s t e = omega arith
drop-lt (x ∷ ss) (suc k) s t e = omega (arith, drop-lt ss k s t e)
