-- Laws of decimal digits: how many there are, and that they are put from the last to the first.
use Prim.Native.Nat.{ℕ, zero, suc, ◌+◌, ◌-◌, ◌*◌, ◌/◌, ◌%◌, ◌^◌, ◌≤◌, ◌<◌}
use mathlib.Core.Path.{◌≡◌, refl, sym, ap, ◌∙◌, subst}
use mathlib.Core.List.{List, [], ◌∷◌, ◌++◌, append_assoc, append-nil}
use native.Mathlib.Omega.{arith}
use native.Mathlib.Numerals.{add-one, one-add}
use native.Mathlib.Nat.{add_assoc, pow-suc, mod-eq_of_lt}
use mathlib.Core.Bool.{Bool, true, false}
use lib.Dec.{ltb}
use lib.ListN.{length, get_or, set, take, drop, length-append, length-drop, drop_of_length-le}
use lib.Seq.{take-suc, drop-cons, set_at, drop_at, length-take-le, paste-zero}
use borrow.Author.Tests.{lt-ltb, le-ltb, ltb-true}
use Rattle.octets.specs.Pick.{pick}
use Rattle.octets.specs.Parts.{overlay}
use Rattle.decimal.specs.Text.{decimal_below, decimal, value_after, DecimalShows}

-- the last k decimal digits of n
abbrev pub last_digits : ℕ → ℕ → List ℕ
last_digits zero n = []
last_digits (suc k) n = last_digits k (n / 10) ++ ((48 + n % 10) ∷ [])

pub length_last : (k n : ℕ) → length (last_digits k n) ≡ k
length_last zero n = refl
length_last (suc k) n =
    length-append (last_digits k (n / 10)) ((48 + n % 10) ∷ []) ∙ ap (λ (m : ℕ). m + 1) (length_last k (n / 10)) ∙ add-one k

-- k is how many digits n has
abbrev pub Fewest : ℕ → ℕ → Type 0
Fewest n k = (1 ≤ k) × (n < 10 ^ k) × (1 < k → 10 ^ (k - 1) ≤ n)

pow_pos : (k : ℕ) → 0 < 10 ^ k
pow_pos zero = omega arith
pow_pos (suc k) = rw pow-suc (let h : 0 < 10 ^ k = pow_pos k in omega arith)

spelt : (f k n : ℕ) → k ≤ f → Fewest n k → last_digits k n ≡ decimal_below f n
unfolding pick
spelt f zero n h w = absurd (omega (arith, w.0))
spelt zero (suc k) n h w = absurd (omega arith)
spelt (suc f) (suc zero) n h w =
    let small : n < 10 = w.1 in
    simp (mod-eq_of_lt small, lt-ltb n 10 small)
spelt (suc f) (suc (suc k)) n h w =
    let pos : 0 < 10 ^ k = pow_pos k in
    let one : suc (suc k) - 1 ≡ suc k = omega arith in
    let low : 10 ^ k * 10 ≤ n = rw pow-suc at (rw one at (w.2 (omega arith))) in
    let high : n < 10 ^ suc k * 10 = rw pow-suc at w.1 in
    let big : 10 ≤ n = omega arith in
    let less : suc k - 1 ≡ k = omega arith in
    let ih : last_digits (suc k) (n / 10) ≡ decimal_below f (n / 10) = spelt f (suc k) (n / 10) (omega arith)
    (omega arith, omega arith, λ _. rw less (omega arith)) in
    simp (le-ltb n 10 big) (ap (λ (l : List ℕ). l ++ ((48 + n % 10) ∷ [])) ih)

-- the fewest digits that hold n are its decimal digits
last-decimal : (k n : ℕ) → k ≤ 10 → Fewest n k → last_digits k n ≡ decimal n
unfolding decimal
last-decimal k n h w = spelt 10 k n h w

-- and as many of its last digits
last_by : (k n : ℕ) → last_digits (length (decimal_below k (n / 10))) (n / 10) ≡ decimal_below k (n / 10) → (b : Bool) → ltb n 10 ≡ b
    → last_digits (length (pick b ((48 + n) ∷ []) (decimal_below k (n / 10) ++ ((48 + n % 10) ∷ [])))) n ≡ pick b ((48 + n) ∷ [])
    (decimal_below k (n / 10) ++ ((48 + n % 10) ∷ []))
unfolding pick
last_by k n e true h = simp (mod-eq_of_lt (ltb-true n 10 h))
last_by k n e false h =
    let r : List ℕ = decimal_below k (n / 10) in
    ap (λ (m : ℕ). last_digits m n) (length-append r ((48 + n % 10) ∷ []) ∙ add-one (length r)) ∙ ap
    (λ (l : List ℕ). l ++ ((48 + n % 10) ∷ [])) e

below_last : (k n : ℕ) → last_digits (length (decimal_below k n)) n ≡ decimal_below k n
unfolding pick
below_last zero n = refl
below_last (suc k) n = last_by k n (below_last k (n / 10)) (ltb n 10) refl

pub decimal-last : (n : ℕ) → last_digits (length (decimal n)) n ≡ decimal n
unfolding decimal
decimal-last n = below_last 10 n

-- n has k digits or more, and bound is the least number that has more than k
pub record Counting (n k bound : ℕ) : Type 0 where
  pub some : 1 ≤ k
  pub most : k ≤ 10
  pub power : bound ≡ 10 ^ k
  pub least : 1 < k → 10 ^ (k - 1) ≤ n

pub one_place : (n : ℕ) → Counting n 1 10
one_place n = record { some = omega arith; most = omega arith; power = refl; least = λ h. absurd (omega arith) }

pub one-place-more : {n k bound : ℕ} → k < 10 → bound ≤ n → Counting n k bound → Counting n (k + 1) (bound * 10)
one-place-more {n} {k} h b c =
    let before : k + 1 - 1 ≡ k = omega arith in
    record {
      some = omega arith;
      most = omega arith;
      power = ap (λ (m : ℕ). m * 10) c.power ∙ sym (pow-suc 10 k) ∙ ap (λ (m : ℕ). 10 ^ m) (sym (add-one k));
      least = λ _. rw (before, ← c.power) b;
    }

pub how_many : {n k bound : ℕ} → Counting n k bound → n < bound → k ≡ length (decimal n)
how_many {n} {k} c h = sym (length_last k n) ∙ ap length (last-decimal k n c.most (c.some, rw c.power at h, c.least))

pub ten_places : {n k bound : ℕ} → Counting n k bound → 10 ≤ k → n < 10 ^ 10 → 10 ≡ length (decimal n)
ten_places {n} {k} c h small =
    let all : k ≡ 10 = omega (arith, c.most) in
    sym all ∙ how_many c (subst (λ (m : ℕ). n < m) (ap (λ (m : ℕ). 10 ^ m) (sym all) ∙ sym c.power) small)

-- a text, and the octet before it
before-laid : (out : List ℕ) (at : ℕ) (text : List ℕ) (g : ℕ) → at + 1 + length text ≤ length out → set
    (overlay out (at + 1) text) at g ≡ overlay out at (g ∷ text)
before-laid out at text g h =
    let r : List ℕ = drop (at + 1 + length text) out in
    let y : ℕ = get_or out at 0 in
    let p : List ℕ = take at out in
    ap (λ (l : List ℕ). set (l ++ text ++ r) at g) (ap (λ (k : ℕ). take k out) (add-one at) ∙ take-suc out at 0 (omega arith))
    ∙ ap (λ (l : List ℕ). set l at g) (append_assoc (p ++ (y ∷ [])) text r ∙ append_assoc p (y ∷ []) (text ++ r))
    ∙ set_at p y (text ++ r) g at (length-take-le at out (omega arith))
    ∙ sym (append_assoc p (g ∷ text) r)
    ∙ ap (λ (k : ℕ). p ++ (g ∷ text) ++ drop k out) (add_assoc at 1 (length text) ∙ ap (λ (k : ℕ). at + k) (one-add (length text)))

-- a text, and the octet behind it
pub behind-laid : (out : List ℕ) (at : ℕ) (text : List ℕ) (g : ℕ) → at + length text < length out → set (overlay out at text)
    (at + length text) g ≡ overlay out at (text ++ (g ∷ []))
behind-laid out at text g h =
    let p : List ℕ = take at out ++ text in
    let k : ℕ = at + length text in
    let l : length p ≡ k = length-append (take at out) text ∙ ap (λ (m : ℕ). m + length text) (length-take-le at out (omega arith)) in
    ap (λ (r : List ℕ). set (p ++ r) k g) (drop-cons out k 0 h)
    ∙ set_at p (get_or out k 0) (drop (suc k) out) g k l
    ∙ sym (append_assoc p (g ∷ []) (drop (suc k) out))
    ∙ ap (λ (x : List ℕ). x ++ drop (suc k) out) (append_assoc (take at out) text (g ∷ []))
    ∙ ap (λ (m : ℕ). take at out ++ (text ++ (g ∷ [])) ++ drop m out)
    (sym (add-one k) ∙ add_assoc at (length text) 1 ∙ ap (λ (m : ℕ). at + m) (sym (length-append text (g ∷ []))))

-- once the digits d from the i-th on are put, those before them are the last i of rest
pub record Putting (d out₀ : List ℕ) (at i rest : ℕ) (out : List ℕ) : Type 0 where
  pub before : d ≡ last_digits i rest ++ drop i d
  pub put : out ≡ overlay out₀ (at + i) (drop i d)

-- no digit is put yet
pub none-put : (k n : ℕ) (out₀ : List ℕ) (at : ℕ) → Putting (last_digits k n) out₀ at k n out₀
none-put k n out₀ at =
    let d = last_digits k n in
    let l = length_last k n in
    let none : drop k d ≡ [] = (let h : length d ≤ k = omega arith in drop_of_length-le d h) in
    record {
      before = simp (none, append-nil);
      put = paste-zero out₀ (at + k) [] ∙ ap (overlay out₀ (at + k)) (sym none);
    }

-- the digit before them
pub one-put : (d out₀ : List ℕ) (at i rest : ℕ) (out : List ℕ) → at + length d ≤ length out₀ → i < length d
    → Putting d out₀ at (i + 1) rest out → Putting d out₀ at i (rest / 10) (set out (at + i) (48 + rest % 10))
one-put d out₀ at i rest out fits inside p =
    let g : ℕ = 48 + rest % 10 in
    let f : List ℕ = last_digits i (rest / 10) in
    let e : d ≡ f ++ (g ∷ drop (i + 1) d) = p.before ∙ ap (λ (k : ℕ). last_digits k rest ++ drop (i + 1) d) (add-one i) ∙ append_assoc f
    (g ∷ []) (drop (i + 1) d) in
    let next : drop i d ≡ g ∷ drop (i + 1) d = ap (drop i) e ∙ drop_at f (g ∷ drop (i + 1) d) i (length_last i (rest / 10)) in
    let l = length-drop (i + 1) d in
    record {
      before = e ∙ ap (λ (x : List ℕ). f ++ x) (sym next);
      put =
          ap (λ (x : List ℕ). set x (at + i) g) (p.put ∙ ap (λ (a : ℕ). overlay out₀ a (drop (i + 1) d)) (sym (add_assoc at i 1)))
          ∙ before-laid out₀ (at + i) (drop (i + 1) d) g (omega arith)
          ∙ ap (overlay out₀ (at + i)) (sym next);
    }

-- a number's digits show it
value-append : (n : ℕ) (ds : List ℕ) (d : ℕ) → value_after n (ds ++ (d ∷ [])) ≡ value_after n ds * 10 + (d - 48)
value-append n [] d = refl
value-append n (x ∷ ds) d = value-append (n * 10 + (x - 48)) ds d

shown : (k n : ℕ) → value_after 0 (decimal_below k (n / 10)) ≡ n / 10 → (b : Bool) → ltb n 10 ≡ b
    → value_after 0 (pick b ((48 + n) ∷ []) (decimal_below k (n / 10) ++ ((48 + n % 10) ∷ []))) ≡ n
unfolding pick
shown k n e true h = omega arith
shown k n e false h = value-append 0 (decimal_below k (n / 10)) (48 + n % 10) ∙ omega arith

pub shows : (k n : ℕ) → n < 10 ^ k → value_after 0 (decimal_below k n) ≡ n
shows zero n h = omega arith
shows (suc k) n h =
    let g : n < 10 ^ k * 10 = rw pow-suc at h in
    shown k n (shows k (n / 10) (omega arith)) (ltb n 10) refl

pub decimal-shows : DecimalShows
unfolding decimal
decimal-shows n h = shows 10 n h
