-- Text that is said one part behind another.
use Prim.Native.Nat.{ℕ, zero, suc, ◌+◌, ◌-◌, ◌/◌, ◌%◌, ◌^◌, ◌*◌, ◌≤◌, ◌<◌}
use native.Mathlib.Nat.{pow-suc}
use native.Mathlib.Numerals.{add-one}
use native.Mathlib.Omega.{arith}
use mathlib.Core.Path.{◌≡◌, refl, sym, ap, ◌∙◌}
use mathlib.Core.Bool.{Bool, true, false}
use mathlib.Core.List.{List, [], ◌∷◌, ◌++◌}
use lib.Dec.{ltb}
use lib.ListN.{length, get_or, set, take}
use lib.Seq.{take-suc, take_all}
use borrow.Author.Tests.{lt-ltb, le-ltb, ltb-false, eq-eqb, ne_eqb}
use Rattle.octets.specs.Pick.{pick}
use Rattle.octets.proofs.Choices.{picked, passed}
use Rattle.decimal.specs.Text.{decimal_below}
use Rattle.summary_pen.specs.declared.pen.Pen.{Pen}
use Rattle.summary_pen.specs.Page.{Page, page, octet, said, Says}
use Rattle.summary_pen.specs.Words.{number, told, if_any, each}

-- ---- an octet

module _ (c : ℕ) (out : List ℕ) (pen : Pen) where
  pub skipped : 0 < pen.skip → Says (c ∷ []) (page out pen) (page out (record { skip = pen.skip - 1; at = pen.at }))
  unfolding octet said
  skipped h = record { leaves = picked _ _ _ (lt-ltb 0 pen.skip h) }

  pub written : pen.skip ≤ 0 → pen.at < length out
      → Says (c ∷ []) (page out pen) (page (set out pen.at c) (record { skip = pen.skip; at = pen.at + 1 }))
  unfolding octet said
  written h k = record { leaves = passed _ _ _ _ (le-ltb 0 pen.skip h) (picked _ _ _ (lt-ltb pen.at (length out) k)) }

  pub left_out : pen.skip ≤ 0 → length out ≤ pen.at → Says (c ∷ []) (page out pen) (page out pen)
  unfolding octet said
  left_out h k = record { leaves = passed _ _ _ _ (le-ltb 0 pen.skip h) (passed _ _ _ _ (le-ltb pen.at (length out) k) refl) }

-- ---- one part behind another

said-append : (s t : List ℕ) (p : Page) → said (s ++ t) p ≡ said t (said s p)
unfolding said
said-append [] t p = refl
said-append (c ∷ s) t p = said-append s t (octet c p)

pub none : (p : Page) → Says [] p p
unfolding said
none p = record { leaves = refl }

pub then : {s t : List ℕ} {p q r : Page} → Says s p q → Says t q r → Says (s ++ t) p r
then {s} {t} {p} e f = record { leaves = f.leaves ∙ ap (said t) e.leaves ∙ sym (said-append s t p) }

pub reads : {s t : List ℕ} {p q : Page} → s ≡ t → Says s p q → Says t p q
reads {p = p} e f = record { leaves = f.leaves ∙ ap (λ (x : List ℕ). said x p) e }

module _ {p q : Page} where
  pub read-two : (text : ℕ → ℕ → List ℕ) {m n m' n' : ℕ} → m ≡ m' → n ≡ n' → Says (text m n) p q → Says (text m' n') p q
  read-two text {n = n} {m' = m'} e f s = reads (ap (λ (m : ℕ). text m n) e ∙ ap (text m') f) s

  pub read-three : (text : ℕ → ℕ → ℕ → List ℕ) {l m n l' m' n' : ℕ} → l ≡ l' → m ≡ m' → n ≡ n' → Says (text l m n) p q
      → Says (text l' m' n') p q
  read-three text {m = m} {n = n} {l' = l'} d e f s = read-two (text l') e f (reads (ap (λ (l : ℕ). text l m n) d) s)

-- the first i words and the next
pub say_on : (words : List ℕ) (i : ℕ) {p q r : Page} → i < length words → Says (take i words) p q
    → Says (get_or words i 0 ∷ []) q r → Says (take (i + 1) words) p r
say_on words i h e f = reads (sym (take-suc words i 0 h) ∙ ap (λ (j : ℕ). take j words) (sym (add-one i))) (then e f)

pub say_end : (words : List ℕ) (i : ℕ) {p q : Page} → length words ≤ i → Says (take i words) p q → Says words p q
say_end words i h e = reads (take_all i words h) e

-- ---- digits

-- one digit more makes no difference to a number that has them all
same-behind : (n : ℕ) (x y : List ℕ) (b : Bool) → ltb n 10 ≡ b → (10 ≤ n → x ≡ y)
    → pick b ((48 + n) ∷ []) (x ++ ((48 + n % 10) ∷ [])) ≡ pick b ((48 + n) ∷ []) (y ++ ((48 + n % 10) ∷ []))
unfolding pick
same-behind n x y true e h = refl
same-behind n x y false e h = ap (λ (l : List ℕ). l ++ ((48 + n % 10) ∷ [])) (h (ltb-false n 10 e))

stable : (k n : ℕ) → 1 ≤ n → n < 10 ^ k → decimal_below (suc k) n ≡ decimal_below k n
stable zero n p h = absurd (omega arith)
stable (suc k) n p h =
    let g : n < 10 ^ k * 10 = rw pow-suc at h in
    same-behind n (decimal_below (suc k) (n / 10)) (decimal_below k (n / 10)) (ltb n 10) refl
    (λ b. stable k (n / 10) (omega arith) (omega arith))

number_small : (n : ℕ) → n < 10 → (48 + n) ∷ [] ≡ number n
unfolding number pick
number_small n h = simp (lt-ltb n 10 h)

number_more : (n : ℕ) → 10 ≤ n → n < 2 ^ 64 → number (n / 10) ++ ((48 + n % 10) ∷ []) ≡ number n
unfolding number pick
number_more n h g =
    simp (le-ltb n 10 h)
    (ap (λ (l : List ℕ). l ++ ((48 + n % 10) ∷ [])) (stable 19 (n / 10) (omega arith) (omega arith)))

module _ (n : ℕ) {p q : Page} where
  pub digit-said : n < 10 → Says ((48 + n) ∷ []) p q → Says (number n) p q
  digit-said h e = reads (number_small n h) e

  pub digits_said : {r : Page} → 10 ≤ n → n < 2 ^ 64 → Says (number (n / 10)) p q → Says ((48 + n % 10) ∷ []) q r → Says (number n) p r
  digits_said h g e f = reads (number_more n h g) (then e f)

pub told-said : (words : List ℕ) (n : ℕ) {p q r : Page} → Says words p q → Says (number n) q r → Says (told words n) p r
unfolding told
told-said words n e f = then e f

-- ---- text that stands there if there is something to tell

pub none_said : (n : ℕ) (text : List ℕ) {p : Page} → n ≡ 0 → Says (if_any n text) p p
unfolding if_any
none_said n text {p} h = reads (picked _ _ _ (eq-eqb n 0 h)) (none p)

pub any_said : (n : ℕ) (text : List ℕ) {p q : Page} → (n ≡ 0 → ⊥) → Says text p q → Says (if_any n text) p q
unfolding if_any
any_said n text h e = reads (passed _ _ _ _ (ne_eqb n 0 h) refl) e

-- ---- texts one after another

each_next : (many i : ℕ) (line : ℕ → List ℕ) → i < many → each (many - i) i line ≡ line i ++ each (many - (i + 1)) (i + 1) line
unfolding each
each_next many i line h =
    let e : many - i ≡ suc (many - (i + 1)) = omega arith in
    ap (λ (k : ℕ). each k i line) e

pub each_none : (many i : ℕ) (line : ℕ → List ℕ) → many ≤ i → each (many - i) i line ≡ []
unfolding each
each_none many i line h =
    let e : many - i ≡ 0 = omega arith in
    ap (λ (k : ℕ). each k i line) e

-- texts with nothing in them
pub each-skip : (d m from n to : ℕ) (line : ℕ → List ℕ) → n ≡ d + m → to ≡ from + d
    → ((k : ℕ) → from ≤ k → k < to → line k ≡ []) → each n from line ≡ each m to line
unfolding each
each-skip zero m from n to line e f h =
    let g : n ≡ m = omega arith in
    let i : from ≡ to = omega arith in
    ap (λ (k : ℕ). each k from line) g ∙ ap (λ (k : ℕ). each m k line) i
each-skip (suc d) m from n to line e f h =
    let g : n ≡ suc (d + m) = omega arith in
    ap (λ (k : ℕ). each k from line) g
    ∙ ap (λ (l : List ℕ). l ++ each (d + m) (from + 1) line) (h from (omega arith) (omega arith))
    ∙ each-skip d m (from + 1) (d + m) to line refl (omega arith) (λ k a b. h k (omega arith) b)

-- texts that were said, from the first to that before number i
pub record Through (many : ℕ) (line : ℕ → List ℕ) (i : ℕ) (p q : Page) : Type 0 where
  goes : {r : Page} → Says (each (many - i) i line) q r → Says (each (many - 0) 0 line) p r

module _ (many : ℕ) (line : ℕ → List ℕ) where
  pub through_none : (p : Page) → Through many line 0 p p
  through_none p = record { goes = λ s. s }

  module _ (i : ℕ) {p q : Page} (t : Through many line i p q) where
    pub through_on : {r : Page} → i < many → Says (line i) q r → Through many line (i + 1) p r
    through_on h e = record { goes = λ s. t.goes (reads (sym (each_next many i line h)) (then e s)) }

    pub through_skip : (to : ℕ) → i ≤ to → to ≤ many → ((k : ℕ) → i ≤ k → k < to → line k ≡ []) → Through many line to p q
    through_skip to h l e =
        let same = each-skip (to - i) (many - to) i (many - i) to line (omega arith) (omega arith) e in
        record { goes = λ s. t.goes (reads (sym same) s) }

    pub through_all : many ≤ i → Says (each (many - 0) 0 line) p q
    through_all h = t.goes (reads (sym (each_none many i line h)) (none q))
