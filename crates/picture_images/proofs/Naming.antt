-- The line, laid part by part where it has room.
use Prim.Native.Nat.{ℕ, suc, ◌+◌, ◌-◌, ◌*◌, ◌%◌, ◌^◌, ◌≤◌, ◌<◌}
use mathlib.Core.Path.{◌≡◌, refl, sym, ap, ◌∙◌}
use mathlib.Core.List.{List, [], ◌∷◌, ◌++◌, append_assoc, append-nil}
use mathlib.Core.Bool.{true, false}
use native.Mathlib.Omega.{arith}
use native.Mathlib.Nat.{zero-add}
use native.Mathlib.Numerals.{add-one}
use lib.Dec.{ltb}
use lib.ListN.{length, take, drop, drop_of_length-le, length-drop}
use lib.Seq.{drop-cons, take_all}
use borrow.Author.Tests.{eq-eqb, ne_eqb, lt-ltb, le-ltb}
use Rattle.octets.specs.Numbers.{at}
use Rattle.octets.specs.Parts.{put}
use Rattle.octets.proofs.Choices.{picked, passed}
use Rattle.decimal.specs.Text.{longest_number, decimal}
use Rattle.decimal.specs.Laid.{Laid, Puts}
use Rattle.decimal.proofs.Laid.{resaid, joined, no_number, put-laid, puts_laid, number-laid}
use Rattle.picture_images.specs.Line.{at_all, no_line, of_one, of_many, were, also, more_were, behind_name, name_of, names_of, most_named}
use Rattle.picture_images.specs.Line.{list_of, head_of, line_of, longest_name, longest_list, longest_head, longest_line}

-- a text at the start
pub laid-first : (text : List ℕ) {out out' : List ℕ} → length text ≤ length out → out' ≡ put out 0 text → Laid (length text) text out 0 out'
    (length text)
laid-first text h e =
    let l = put-laid {text = text} {at = 0} (omega arith) e in
    record { leaves = l.leaves; behind = sym (zero-add (length text)); near = omega arith }

-- a number, the character after it, and words
pub told-laid : (words : List ℕ) {out out₁ out₂ : List ℕ} {at r : ℕ} (n after : ℕ) → at + longest_number + length words ≤ length out
    → length out₁ ≡ length out → Puts longest_number (decimal n ++ (after ∷ [])) out at out₁ r → out₂ ≡ put out₁ r words
    → Laid (longest_number + length words) (decimal n ++ (after ∷ words)) out at out₂ (r + length words)
told-laid words n after room same p e =
    let y = number-laid n after (omega arith) p in
    let z = put-laid {text = words} (omega (arith, y.near)) e in
    resaid (append_assoc (decimal n) (after ∷ []) words) (omega arith) (joined (omega arith) y z)

-- and where it ends
pub told-near : {out out₁ : List ℕ} {at r : ℕ} (n after : ℕ) → at + longest_number ≤ length out
    → Puts longest_number (decimal n ++ (after ∷ [])) out at out₁ r → r ≤ at + longest_number
told-near n after room p = (number-laid n after room p).near

-- ---- a name, by how many are told behind it

module _ {out out' : List ℕ} {at r : ℕ} (image behind : ℕ) where
  pub last_name : behind ≡ 0 → Laid (longest_number + 5) (decimal image ++ (32 ∷ were)) out at out' r
      → Laid longest_name (name_of image behind) out at out' r
  unfolding name_of behind_name
  last_name e l = resaid (ap (λ (t : List ℕ). decimal image ++ t) (picked _ _ _ (eq-eqb _ _ e))) (omega arith) l

  module _ (n : behind ≡ 0 → ⊥) where
    pub next-to-last : behind ≡ 1 → Laid (longest_number + 4) (decimal image ++ (32 ∷ also)) out at out' r
        → Laid longest_name (name_of image behind) out at out' r
    unfolding name_of behind_name
    next-to-last e l =
        resaid (ap (λ (t : List ℕ). decimal image ++ t) (passed _ _ _ _ (ne_eqb _ _ n) (picked _ _ _ (eq-eqb _ _ e)))) (omega arith) l

    pub earlier-name : (behind ≡ 1 → ⊥) → Laid (longest_number + 1) (decimal image ++ (44 ∷ 32 ∷ [])) out at out' r
        → Laid longest_name (name_of image behind) out at out' r
    unfolding name_of behind_name
    earlier-name m l =
        resaid (ap (λ (t : List ℕ). decimal image ++ t) (passed _ _ _ _ (ne_eqb _ _ n) (passed _ _ _ _ (ne_eqb _ _ m) refl)))
        (omega arith) l

-- ---- names one behind another

-- the first i of these images are named
pub record Naming (images : List ℕ) (more i : ℕ) (out : List ℕ) (at : ℕ) (out' : List ℕ) (r : ℕ) : Type 0 where
  pub front : List ℕ
  pub laid : Laid (longest_name * i) front out at out' r
  pub rest : front ++ names_of more (drop i images) ≡ names_of more images

pub none_named_lem : (images : List ℕ) (more : ℕ) (out : List ℕ) (at : ℕ) → Naming images more 0 out at out at
none_named_lem images more out at = record { front = []; laid = no_number out at; rest = refl }

module _ (images : List ℕ) (more i : ℕ) {out : List ℕ} {at₀ : ℕ} {out₁ : List ℕ} {r₁ : ℕ} (g : Naming images more i out at₀ out₁ r₁) where
  pub one-named : {out₂ : List ℕ} {r₂ image behind : ℕ} → i < length images → at₀ ≤ length out → image ≡ at images i
      → behind ≡ length images - 1 - i + more → Laid longest_name (name_of image behind) out₁ r₁ out₂ r₂ → Naming images more
      (i + 1) out at₀ out₂ r₂
  one-named {image = image} {behind} inside h e f l =
      let k : length (drop (suc i) images) + more ≡ behind = simp length-drop (omega arith) in
      record {
        front = g.front ++ name_of image behind;
        laid = resaid refl (omega arith) (joined h g.laid l);
        rest = append_assoc g.front (name_of image behind) (names_of more (drop (i + 1) images))
            ∙ ap (λ (j : ℕ). g.front ++ (name_of image behind ++ names_of more (drop j images))) (add-one i)
            ∙ ap (λ (x : ℕ). g.front ++ (name_of x behind ++ names_of more (drop (suc i) images))) e
            ∙ ap (λ (b : ℕ). g.front ++ (name_of (at images i) b ++ names_of more (drop (suc i) images))) (sym k)
            ∙ ap (λ (x : List ℕ). g.front ++ names_of more x) (sym (drop-cons images i 0 inside))
            ∙ g.rest;
      }

  pub all_named : {named : ℕ} → length images ≤ i → i ≤ named → Laid (longest_name * named) (names_of more images) out at₀ out₁ r₁
  all_named h n =
      resaid (sym (append-nil g.front) ∙ ap (λ (x : List ℕ). g.front ++ names_of more x) (sym (drop_of_length-le images h)) ∙ g.rest)
      (omega arith) g.laid

-- ---- the list, and the line

module _ (images : List ℕ) {out : List ℕ} {at₀ : ℕ} {out₁ : List ℕ} {r₁ n : ℕ} (all : n ≡ length images) where
  pub few-listed : n ≤ most_named → Laid (longest_name * n) (names_of 0 (take n images)) out at₀ out₁ r₁
      → Laid longest_list (list_of images) out at₀ out₁ r₁
  unfolding list_of
  few-listed h l =
      let f : ltb most_named (length images) ≡ false = le-ltb most_named (length images) (omega arith) in
      resaid (ap (names_of 0) (take_all n images (omega arith)) ∙ passed _ _ _ _ f refl) (omega arith) l

  pub many-listed : {out₂ : List ℕ} {r₂ : ℕ} → most_named < n → at₀ ≤ length out
      → Laid (longest_name * most_named) (names_of 1 (take most_named images)) out at₀ out₁ r₁
      → Laid (longest_number + 10) (decimal ((n - most_named) % 2 ^ 32) ++ (32 ∷ more_were)) out₁ r₁ out₂ r₂
      → Laid longest_list (list_of images) out at₀ out₂ r₂
  unfolding list_of
  many-listed h room a b =
      let t : ltb most_named (length images) ≡ true = lt-ltb most_named (length images) (omega arith) in
      resaid
      (ap (λ (k : ℕ). names_of 1 (take most_named images) ++ (decimal ((k - most_named) % 2 ^ 32) ++ (32 ∷ more_were))) all
      ∙ picked _ _ _ t) (omega arith) (joined room a b)

module _ (wanted n : ℕ) {out out₁ out₂ : List ℕ} {r₁ r₂ : ℕ} (l : Laid 19 no_line out 0 out₁ r₁) where
  pub one-headed : n ≡ 1 → Laid (longest_number + 29) (decimal wanted ++ (32 ∷ of_one)) out₁ r₁ out₂ r₂
      → Laid longest_head (head_of wanted n) out 0 out₂ r₂
  unfolding head_of
  one-headed e h =
      resaid (ap (λ (t : List ℕ). no_line ++ (decimal wanted ++ (32 ∷ t))) (picked _ _ _ (eq-eqb _ _ e))) (omega arith)
      (joined (omega arith) l h)

  pub many-headed : (n ≡ 1 → ⊥) → Laid (longest_number + 30) (decimal wanted ++ (32 ∷ of_many)) out₁ r₁ out₂ r₂
      → Laid longest_head (head_of wanted n) out 0 out₂ r₂
  unfolding head_of
  many-headed e h =
      resaid (ap (λ (t : List ℕ). no_line ++ (decimal wanted ++ (32 ∷ t))) (passed _ _ _ _ (ne_eqb _ _ e) refl)) (omega arith)
      (joined (omega arith) l h)

module _ (wanted : ℕ) (images : List ℕ) {out : List ℕ} {n : ℕ} (room : longest_line ≤ length out) (all : n ≡ length images) where
  pub none_told : {out' : List ℕ} {r : ℕ} → n ≡ 0 → Laid 36 at_all out 0 out' r → Puts longest_line (line_of wanted images) out 0 out' r
  unfolding line_of
  none_told z l = puts_laid (omega arith) (resaid (picked _ _ _ (eq-eqb _ _ (sym all ∙ z))) (omega arith) l)

  pub some-told : {out₁ out₂ : List ℕ} {r₁ r₂ : ℕ} → (n ≡ 0 → ⊥) → Laid longest_head (head_of wanted n) out 0 out₁ r₁
      → Laid longest_list (list_of images) out₁ r₁ out₂ r₂ → Puts longest_line (line_of wanted images) out 0 out₂ r₂
  unfolding line_of
  some-told z a b =
      puts_laid (omega arith)
      (resaid
      (ap (λ (k : ℕ). head_of wanted k ++ list_of images) all ∙ passed _ _ _ _ (ne_eqb _ _ (λ e. z (all ∙ e))) refl)
      (omega arith) (joined (omega arith) a b))
