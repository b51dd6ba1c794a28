-- Laws of the searches for a name that stands twice, and of the lines before a place.
use Rattle.std.specs.Prelude.{Option, Some, None}
use Rattle.std.specs.List.{list_any, find, count_by, range_with_len}
use Rattle.std.proofs.lemmas.List.Recursion.{is_count_by}
use Prim.Native.Nat.{ℕ, zero, suc, ◌+◌, ◌-◌, ◌≤◌, ◌<◌}
use native.Mathlib.Numerals.{add-one}
use native.Mathlib.Omega.{arith}
use mathlib.Core.Path.{◌≡◌, refl, ap, sym, ◌∙◌}
use mathlib.Core.Bool.{Bool, true, false, cond, not, ◌&&◌, ◌||◌}
use mathlib.Core.List.{List}
use lib.ListN.{length}
use lib.Dec.{eqb}
use Rattle.octets.specs.Numbers.{at}
use Rattle.octets.specs.Parts.{part}
use Rattle.octets.specs.Pick.{pick}
use Rattle.octets.specs.Same.{same}
use Rattle.layout_names.specs.Names.{names_of, same_name, any_of, first_of, first_within, or_else, in_layouts, newlines}

-- a test of numbers one after another
pub any-is : (p : ℕ → Bool) (n j : ℕ) → list_any p (range_with_len j n) ≡ any_of p n j
any-is p zero j = refl
any-is p (suc n) j = ap (λ (b : Bool). p j || b) (ap (λ (m : ℕ). list_any p (range_with_len m n)) (add-one j) ∙ any-is p n (suc j))

-- and the first that passes it
first_more : (b : Bool) (j : ℕ) {x y : Option ℕ} → x ≡ y → cond b (Some j) x ≡ pick b (Some j) y
unfolding pick
first_more true j e = refl
first_more false j e = e

pub first-is : (p : ℕ → Bool) (n j : ℕ) → find p (range_with_len j n) ≡ first_of p n j
first-is p zero j = refl
first-is p (suc n) j = first_more (p j) j (ap (λ (m : ℕ). find p (range_with_len m n)) (add-one j) ∙ first-is p n (suc j))

-- what is found in layout i
abbrev pub in_layout : (ℕ → List ℕ) → List ℕ → ℕ → Option ℕ
in_layout names starts i = first_within names (at starts i) (at starts (suc i))

-- the layouts from i up to n
module _ (f : ℕ → Option ℕ) (i n : ℕ) where
  pub in_none : n ≤ i → in_layouts f (n - i) i ≡ None
  in_none h = let e : n - i ≡ 0 = omega arith in ap (λ (m : ℕ). in_layouts f m i) e

  in_step_lem : i < n → in_layouts f (n - i) i ≡ or_else (f i) (in_layouts f (n - (i + 1)) (i + 1))
  in_step_lem h =
      let e : n - i ≡ suc (n - (i + 1)) = omega arith in
      ap (λ (m : ℕ). in_layouts f m i) e ∙ ap (λ (m : ℕ). or_else (f i) (in_layouts f (n - (i + 1)) m)) (sym (add-one i))

  pub in_here : {k : ℕ} → i < n → f i ≡ Some k → in_layouts f (n - i) i ≡ Some k
  in_here h t = in_step_lem h ∙ ap (λ (r : Option ℕ). or_else r (in_layouts f (n - (i + 1)) (i + 1))) t

  pub in_later : i < n → f i ≡ None → in_layouts f (n - i) i ≡ in_layouts f (n - (i + 1)) (i + 1)
  in_later h t = in_step_lem h ∙ ap (λ (r : Option ℕ). or_else r (in_layouts f (n - (i + 1)) (i + 1))) t

-- as many lines end as newlines stand there
one_more : (b : Bool) (n : ℕ) → pick b 1 0 + n ≡ cond b (1 + n) n
unfolding pick
one_more true n = refl
one_more false n = omega arith

pub counted : (s : List ℕ) → newlines s ≡ count_by (λ c. eqb c 10) s
counted = is_count_by newlines (λ c. eqb c 10) refl (λ c s. one_more (eqb c 10) (newlines s))

-- what the calls told of two names
pub names_same : (text froms tos : List ℕ) (j k : ℕ) {a b c d : ℕ} {x y : List ℕ} {r : Bool} → a ≡ at froms j → b ≡ at tos j
    → x ≡ part text a (b - a) → c ≡ at froms k → d ≡ at tos k → y ≡ part text c (d - c) → r ≡ same x y
    → (not (eqb (length y) 0) && r) ≡ same_name (names_of text froms tos) j k
unfolding same_name
names_same text froms tos j k {a} {b} {c} {d} {x} {y} {r} ea eb ex ec ed ey er =
    let first : x ≡ names_of text froms tos j =
    ex ∙ ap (λ (n : ℕ). part text n (b - n)) ea ∙ ap (λ (n : ℕ). part text (at froms j) (n - at froms j)) eb in
    let second : y ≡ names_of text froms tos k =
    ey ∙ ap (λ (n : ℕ). part text n (d - n)) ec ∙ ap (λ (n : ℕ). part text (at froms k) (n - at froms k)) ed in
    ap (λ (v : Bool). not (eqb (length y) 0) && v) (er ∙ ap (λ (s : List ℕ). same s y) first)
    ∙ ap (λ (s : List ℕ). not (eqb (length s) 0) && same (names_of text froms tos j) s) second

-- and of a layout's names
pub found_as : (names : ℕ → List ℕ) (starts : List ℕ) (i : ℕ) {a b : ℕ} {r x : Option ℕ} → a ≡ at starts i → b ≡ at starts (i + 1)
    → r ≡ first_within names a b → r ≡ x → first_within names (at starts i) (at starts (suc i)) ≡ x
found_as names starts i {a} {b} ea eb er ex =
    sym (er ∙ ap (λ (n : ℕ). first_within names n b) ea ∙ ap (first_within names (at starts i)) (eb ∙ ap (at starts) (add-one i))) ∙ ex
