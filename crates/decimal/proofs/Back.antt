-- What is written as decimal text reads back, and what is read is what is written.
use Rattle.std.specs.Prelude.{Some, None}
use Prim.Native.Nat.{ℕ, zero, suc, ◌+◌, ◌-◌, ◌*◌, ◌/◌, ◌%◌, ◌^◌, ◌≤◌, ◌<◌}
use native.Mathlib.Omega.{arith}
use native.Mathlib.Nat.{add-zero, pow-suc, pow-le-pow_right, mul-le-mul_right}
use mathlib.Core.Path.{◌≡◌, refl, sym, ap, ◌∙◌}
use mathlib.Core.List.{List, [], ◌∷◌, ◌++◌, append_assoc, append-nil}
use mathlib.Core.Bool.{Bool, true, false, not, ◌||◌, true≢false}
use lib.ListN.{length, drop}
use lib.Seq.{drop-append_seam, drop-append-add, drop-drop}
use lib.Dec.{eqb, ltb}
use borrow.Author.Tests.{le-ltb, lt-ltb, ne_eqb, eq-eqb, ltb-false, ltb-true, eqb-false, eqb-true, not-false}
use Rattle.octets.specs.Pick.{pick}
use Rattle.octets.proofs.Choices.{picks, picked, passed}
use Rattle.octets.proofs.Tests.{or_left, or_right}
use Rattle.decimal.specs.Text.{decimal_below, decimal, value_after, each}
use Rattle.decimal.specs.Read.{largest, no_digit, digits_of, number_of, ill_written, ends_otherwise, number_wrong, read_at, behind}
use Rattle.decimal.specs.Read.{numbers_of, numbers_wrong, ReadsBack, WritesBack, NumbersReadBack, NumbersWriteBack}
use Rattle.decimal.specs.Answers.{NumberRead}
use Rattle.decimal.proofs.Decimal.{decimal-shows}
use Rattle.decimal.proofs.Several.{read_at_lem}

-- digits only
abbrev pub Digits : List ℕ → Type 0
Digits [] = Unit {0}
Digits (d ∷ ds) = (no_digit d ≡ false) × Digits ds

digits_append : (a b : List ℕ) → Digits a → Digits b → Digits (a ++ b)
digits_append [] b p q = q
digits_append (d ∷ a) b p q = (p.0, digits_append a b p.1 q)

is_digit : (d : ℕ) → d < 10 → no_digit (48 + d) ≡ false
is_digit d h = simp (le-ltb (48 + d) 48 (omega arith), le-ltb 57 (48 + d) (omega arith))

digit-from : (d : ℕ) → no_digit d ≡ false → (48 ≤ d) × (d ≤ 57)
digit-from d h = (ltb-false d 48 (or_left (ltb d 48) (ltb 57 d) h), ltb-false 57 d (or_right (ltb d 48) (ltb 57 d) h))

-- a first digit other than 0
abbrev Led : List ℕ → Type 0
Led [] = ⊥
Led (d ∷ ds) = d ≡ 48 → ⊥

led_append : (a b : List ℕ) → Led a → Led (a ++ b)
led_append [] b p = absurd p
led_append (d ∷ a) b p = p

led_well : (ds : List ℕ) → Led ds → ill_written ds ≡ false
led_well [] p = absurd p
led_well (d ∷ []) p = refl
led_well (d ∷ e ∷ ds) p = ne_eqb d 48 p

-- a number's digits
pub below_digits : (k n : ℕ) → Digits (decimal_below k n)
below_digits zero n = tt
below_digits (suc k) n =
    picks Digits (ltb n 10) ((48 + n) ∷ []) (decimal_below k (n / 10) ++ ((48 + n % 10) ∷ [])) (λ h. (is_digit n (ltb-true n 10 h), tt))
    (λ h. digits_append (decimal_below k (n / 10)) ((48 + n % 10) ∷ []) (below_digits k (n / 10)) (is_digit (n % 10) (omega arith), tt))

below_led : (k n : ℕ) → 1 ≤ n → n < 10 ^ k → Led (decimal_below k n)
below_led zero n p h = absurd (omega arith)
below_led (suc k) n p h =
    let g : n < 10 ^ k * 10 = rw pow-suc at h in
    picks Led (ltb n 10) ((48 + n) ∷ []) (decimal_below k (n / 10) ++ ((48 + n % 10) ∷ [])) (λ t e. omega arith)
    (λ f. let b : 10 ≤ n = ltb-false n 10 f in led_append (decimal_below k (n / 10)) ((48 + n % 10) ∷ [])
    (below_led k (n / 10) (omega arith) (omega arith)))

decimal_digits : (n : ℕ) → Digits (decimal n)
unfolding decimal
decimal_digits n = below_digits 10 n

decimal_well : (n : ℕ) → n ≤ largest → ill_written (decimal n) ≡ false
unfolding decimal
decimal_well n h =
    let front : List ℕ = decimal_below 9 (n / 10) in
    let last : List ℕ = (48 + n % 10) ∷ [] in
    picks (λ (ds : List ℕ). ill_written ds ≡ false) (ltb n 10) ((48 + n) ∷ []) (front ++ last) (λ t. refl)
    (λ f. let b : 10 ≤ n = ltb-false n 10 f in led_well (front ++ last)
    (led_append front last (below_led 9 (n / 10) (omega arith) (omega arith))))

-- digits with another octet behind them
digits_stop : (ds : List ℕ) (c : ℕ) (text : List ℕ) → Digits ds → no_digit c ≡ true → digits_of (ds ++ (c ∷ text)) ≡ ds
unfolding pick
digits_stop [] c text p h = simp h
digits_stop (d ∷ ds) c text p h = simp p.0 (ap (λ (l : List ℕ). d ∷ l) (digits_stop ds c text p.1 h))

-- a number that was written, at the start of a text
module _ (n after : ℕ) (text : List ℕ) (small : n ≤ largest) (other : no_digit after ≡ true) where
  abbrev given : List ℕ
  given = decimal n ++ (after ∷ text)

  its_digits : digits_of given ≡ decimal n
  its_digits = digits_stop (decimal n) after text (decimal_digits n) other

  its_number : number_of given ≡ n
  its_number = ap (value_after 0) its_digits ∙ decimal-shows n (omega arith)

  its_rest : drop (length (digits_of given)) given ≡ after ∷ text
  its_rest = ap (λ (ds : List ℕ). drop (length ds) given) its_digits ∙ drop-append_seam (decimal n) (after ∷ text)

  its_behind : behind given ≡ text
  its_behind = ap (λ (ds : List ℕ). drop (length ds + 1) given) its_digits ∙ drop-append-add (decimal n) (after ∷ text) 1

  right : number_wrong after given ≡ false
  unfolding number_wrong
  right =
      let k : Bool = ends_otherwise after (drop (length (digits_of given)) given) in
      ap (λ (ds : List ℕ). ill_written ds || (ltb largest (number_of given) || k)) its_digits
      ∙ ap (λ (b : Bool). b || (ltb largest (number_of given) || k)) (decimal_well n small)
      ∙ ap (λ (m : ℕ). ltb largest m || k) its_number
      ∙ ap (λ (b : Bool). b || k) (le-ltb largest n small)
      ∙ ap (ends_otherwise after) its_rest
      ∙ ap not (eq-eqb after after refl)

pub reads-back : ReadsBack
unfolding read_at
reads-back before text n after small other =
    let given : List ℕ = decimal n ++ (after ∷ text) in
    let e : drop (length before) (before ++ given) ≡ given = drop-append_seam before given in
    let read : List ℕ → NumberRead = λ s. pick (number_wrong after s) None (Some (number_of s, length before + length (digits_of s) + 1)) in
    ap read e
    ∙ sym (passed _ _ _ _ (right n after text small other)
    (ap (λ (m : ℕ). Some (m, length before + length (decimal n) + 1)) (sym (its_number n after text small other))
    ∙ ap (λ (ds : List ℕ). Some (number_of given, length before + length ds + 1)) (sym (its_digits n after text small other))))

pub numbers-read-back : NumbersReadBack
unfolding numbers_of numbers_wrong
numbers-read-back [] after small other = (refl, refl)
numbers-read-back (n ∷ ns) after small other =
    let text : List ℕ = each after ns [] in
    let rest = numbers-read-back ns after (λ i. small (suc i)) other in
    let b : behind (decimal n ++ (after ∷ text)) ≡ text = its_behind n after text (small 0) other in (
      ap (λ (w : Bool). w || numbers_wrong (length ns) after (behind (decimal n ++ (after ∷ text)))) (right n after text (small 0) other)
          ∙ ap (numbers_wrong (length ns) after) b ∙ rest.0,
      ap (λ (m : ℕ). m ∷ numbers_of (length ns) (behind (decimal n ++ (after ∷ text)))) (its_number n after text (small 0) other)
          ∙ ap (λ (s : List ℕ). n ∷ numbers_of (length ns) s) b ∙ ap (λ (l : List ℕ). n ∷ l) rest.1,
    )

-- digits that follow a number are the last of what is written for both
followed : (k n : ℕ) (ds : List ℕ) → 1 ≤ n → Digits ds → decimal_below (k + length ds) (value_after n ds) ≡ decimal_below k n ++ ds
unfolding pick
followed k n [] p q = ap (λ (j : ℕ). decimal_below j n) (add-zero k) ∙ sym (append-nil (decimal_below k n))
followed k n (d ∷ ds) p q =
    let m : ℕ = n * 10 + (d - 48) in
    let g = digit-from d q.0 in
    let j : k + suc (length ds) ≡ suc k + length ds = omega arith in
    let high : m / 10 ≡ n = omega arith in
    let low : 48 + m % 10 ≡ d = omega arith in
    let one : decimal_below (suc k) m ≡ decimal_below k n ++ (d ∷ []) = simp (le-ltb m 10 (omega arith), high, low) in
    ap (λ (i : ℕ). decimal_below i (value_after m ds)) j ∙ followed (suc k) m ds (omega arith) q.1
    ∙ ap (λ (l : List ℕ). l ++ ds) one ∙ append_assoc (decimal_below k n) (d ∷ []) ds

multiplied : (n : ℕ) (ds : List ℕ) → n * 10 ^ length ds ≤ value_after n ds
multiplied n [] = omega arith
multiplied n (d ∷ ds) =
    let h : (n * 10 + (d - 48)) * 10 ^ length ds ≤ value_after (n * 10 + (d - 48)) ds = multiplied (n * 10 + (d - 48)) ds in
    rw pow-suc (omega arith)

-- a first digit other than 0, and the digits behind it
begun : (f n : ℕ) (ds : List ℕ) → 1 ≤ n → n < 10 → length ds < f → Digits ds → decimal_below f (value_after n ds) ≡ (48 + n) ∷ ds
unfolding pick
begun f n ds some small room q =
    let k : ℕ = f - suc (length ds) in
    let fuel : f ≡ suc k + length ds = omega arith in
    ap (λ (j : ℕ). decimal_below j (value_after n ds)) fuel ∙ followed (suc k) n ds some q
    ∙ ap (λ (b : Bool). pick b ((48 + n) ∷ []) (decimal_below k (n / 10) ++ ((48 + n % 10) ∷ [])) ++ ds) (lt-ltb n 10 small)

-- not more than ten digits
few : (n : ℕ) (ds : List ℕ) → 1 ≤ n → value_after n ds ≤ largest → length ds < 10
few n ds some small = by (ltb (length ds) 10) refl
  where
    by : (b : Bool) → ltb (length ds) 10 ≡ b → length ds < 10
    by true h = ltb-true (length ds) 10 h
    by false h =
        let p : 10 ^ 10 ≤ 10 ^ length ds = pow-le-pow_right {n = 10} (omega arith) (ltb-false (length ds) 10 h) in
        let q : 1 * 10 ^ length ds ≤ n * 10 ^ length ds = mul-le-mul_right (10 ^ length ds) some in
        absurd (omega (arith, multiplied n ds))

-- well written digits of a number that is not too large are what is written for it
spelt : (ds : List ℕ) → Digits ds → ill_written ds ≡ false → value_after 0 ds ≤ largest → decimal (value_after 0 ds) ≡ ds
unfolding decimal pick
spelt [] p w h = absurd (true≢false w)
spelt (d ∷ []) p w h =
    let g = digit-from d p.0 in
    let n : ℕ = 0 * 10 + (d - 48) in
    let e : 48 + n ≡ d = omega arith in
    sym (picked (ltb n 10) ((48 + n) ∷ []) _ (lt-ltb n 10 (omega arith))) ∙ ap (λ (x : ℕ). x ∷ []) e
spelt (d ∷ e ∷ ds) p w h =
    let g = digit-from d p.0 in
    let n : ℕ = 0 * 10 + (d - 48) in
    let other : d ≡ 48 → ⊥ = eqb-false d 48 w in
    let some : 1 ≤ n = omega arith in
    let first : 48 + n ≡ d = omega arith in
    begun 10 n (e ∷ ds) some (omega arith) (few n (e ∷ ds) some h) p.1 ∙ ap (λ (x : ℕ). x ∷ e ∷ ds) first

-- a text is its digits and what stands behind them
digits_of_lem : (s : List ℕ) → Digits (digits_of s) × (digits_of s ++ drop (length (digits_of s)) s ≡ s)
digits_of_lem [] = (tt, refl)
digits_of_lem (c ∷ s) =
    picks (λ (ds : List ℕ). Digits ds × (ds ++ drop (length ds) (c ∷ s) ≡ c ∷ s)) (no_digit c) [] (c ∷ digits_of s) (λ h. (tt, refl))
    (λ h. let r = digits_of_lem s in ((h, r.0), ap (λ (l : List ℕ). c ∷ l) r.1))

ended : (after : ℕ) (s : List ℕ) → ends_otherwise after s ≡ false → s ≡ after ∷ drop 1 s
ended after [] h = absurd (true≢false h)
ended after (c ∷ s) h = ap (λ (x : ℕ). x ∷ s) (eqb-true c after (not-false (eqb c after) h))

-- a number that is read is what is written for it, ended so
module _ (after : ℕ) (s : List ℕ) (h : number_wrong after s ≡ false) where
  small : number_of s ≤ largest
  unfolding number_wrong
  small = ltb-false largest (number_of s) (or_left (ltb largest (number_of s)) (ends_otherwise after (drop (length (digits_of s)) s))
      (or_right (ill_written (digits_of s)) _ h))

  whole : s ≡ decimal (number_of s) ++ (after ∷ behind s)
  unfolding number_wrong
  whole =
      let d = digits_of_lem s in
      let rest : List ℕ = drop (length (digits_of s)) s in
      let well : ill_written (digits_of s) ≡ false = or_left (ill_written (digits_of s)) _ h in
      let e : rest ≡ after ∷ drop 1 rest = ended after rest
      (or_right (ltb largest (number_of s)) (ends_otherwise after rest) (or_right (ill_written (digits_of s)) _ h)) in
      sym d.1 ∙ ap (λ (r : List ℕ). digits_of s ++ r) (e ∙ ap (λ (r : List ℕ). after ∷ r) (drop-drop 1 (length (digits_of s)) s))
      ∙ ap (λ (ds : List ℕ). ds ++ (after ∷ behind s)) (sym (spelt (digits_of s) d.0 well small))

pub writes-back : WritesBack
writes-back text from after n next h =
    let r = read_at_lem text from after n next h in
    let here : List ℕ = drop from text in (
      omega (arith, small after here r.right, r.number),
      whole after here r.right ∙ ap (λ (m : ℕ). decimal m ++ (after ∷ behind here)) r.number ∙ ap
          (λ (s : List ℕ). decimal n ++ (after ∷ s)) r.rest,
    )

pub numbers_write_back : NumbersWriteBack
unfolding numbers_of numbers_wrong
numbers_write_back zero after [] h = refl
numbers_write_back zero after (c ∷ text) h = absurd (true≢false h)
numbers_write_back (suc n) after text h =
    let w : Bool = number_wrong after text in
    let v : Bool = numbers_wrong n after (behind text) in
    ap (λ (r : List ℕ). decimal (number_of text) ++ (after ∷ r)) (numbers_write_back n after (behind text) (or_right w v h))
    ∙ sym (whole after text (or_left w v h))
