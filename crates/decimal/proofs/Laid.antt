-- Texts laid one behind another are one text.
use Prim.Native.Nat.{ℕ, ◌+◌, ◌*◌, ◌≤◌, ◌<◌}
use native.Mathlib.Nat.{add-zero, add_assoc}
use native.Mathlib.Numerals.{add-one}
use native.Mathlib.Omega.{arith}
use mathlib.Core.Path.{◌≡◌, refl, sym, ap, ◌∙◌}
use mathlib.Core.List.{List, [], ◌∷◌, ◌++◌, append_assoc}
use lib.ListN.{length, get_or, take, drop, length-append}
use lib.Seq.{take_at, take-suc, drop-append-add, drop-drop, length-take-le, paste-zero}
use borrow.Author.Tests.{lt-ltb, le-ltb}
use Rattle.octets.specs.Pick.{pick}
use Rattle.octets.specs.Parts.{overlay, put}
use Rattle.octets.proofs.Placing.{put-fits}
use Rattle.decimal.specs.Text.{longest_number, decimal, each}
use Rattle.decimal.specs.Laid.{Laid, Puts}
use Rattle.decimal.proofs.Short.{decimal-short, each-short}

-- the same text, said otherwise
pub resaid : {most more : ℕ} {text text' out out' : List ℕ} {at r : ℕ} → text ≡ text' → most ≤ more → Laid most text out at out' r
    → Laid more text' out at out' r
resaid {out = out} {at = at} e m l = record {
  leaves = l.leaves ∙ ap (overlay out at) e;
  behind = l.behind ∙ ap (λ (t : List ℕ). at + length t) e;
  near = omega (arith, l.near);
}

overlay-behind : (out a b : List ℕ) (at : ℕ) → at ≤ length out → overlay (overlay out at a) (at + length a) b ≡ overlay out at (a ++ b)
overlay-behind out a b at h =
    let p : List ℕ = take at out ++ a in
    let rest : List ℕ = drop (at + length a) out in
    let l : length p ≡ at + length a = length-append (take at out) a ∙ ap (λ (n : ℕ). n + length a) (length-take-le at out h) in
    ap (λ (x : List ℕ). x ++ b ++ drop (at + length a + length b) (p ++ rest)) (take_at p rest (at + length a) l)
    ∙ ap (λ (n : ℕ). p ++ b ++ drop (n + length b) (p ++ rest)) (sym l)
    ∙ simp (drop-append-add, drop-drop, length-append, append_assoc, add_assoc)

-- a text laid behind another is one text with it
pub joined : {m k : ℕ} {a b out out₁ out₂ : List ℕ} {at r₁ r₂ : ℕ} → at ≤ length out → Laid m a out at out₁ r₁ → Laid k b out₁ r₁ out₂ r₂
    → Laid (m + k) (a ++ b) out at out₂ r₂
joined {a = a} {b} {out} {at = at} {r₁} h x y = record {
  leaves = y.leaves
      ∙ ap (λ (o : List ℕ). overlay o r₁ b) x.leaves
      ∙ ap (λ (n : ℕ). overlay (overlay out at a) n b) x.behind
      ∙ overlay-behind out a b at h;
  behind = simp length-append (omega (arith, x.behind, y.behind));
  near = omega (arith, x.near, y.near);
}

-- a text behind numbers
each_then : (after : ℕ) (ns text : List ℕ) → each after ns [] ++ text ≡ each after ns text
each_then after [] text = refl
each_then after (n ∷ ns) text =
    append_assoc (decimal n) (after ∷ each after ns []) text ∙ ap (λ (t : List ℕ). decimal n ++ (after ∷ t)) (each_then after ns text)

pub behind-numbers : (after : ℕ) {m k : ℕ} {text out out₁ out₂ : List ℕ} {at r₁ r₂ : ℕ} (ns : List ℕ) → at ≤ length out → Laid m
    (each after ns []) out at out₁ r₁ → Laid k text out₁ r₁ out₂ r₂
    → Laid (m + k) (each after ns text) out at out₂ r₂
behind-numbers after {text = text} ns h x y = resaid (each_then after ns text) (omega arith) (joined h x y)

-- no number, and one more
pub no_number : (out : List ℕ) (at : ℕ) → Laid 0 [] out at out at
no_number out at = record { leaves = paste-zero out at []; behind = sym (add-zero at); near = omega arith }

each_last : (after : ℕ) (ns : List ℕ) (n : ℕ) → each after ns (decimal n ++ (after ∷ [])) ≡ each after (ns ++ (n ∷ [])) []
each_last after [] n = refl
each_last after (m ∷ ns) n = ap (λ (t : List ℕ). decimal m ++ (after ∷ t)) (each_last after ns n)

pub one-number-more : (after : ℕ) {out out₁ out₂ : List ℕ} {at r₁ r₂ : ℕ} (list : List ℕ) (i : ℕ) → i < length list → at ≤ length out → Laid
    (longest_number * i) (each after (take i list) []) out at out₁ r₁
    → Laid longest_number (decimal (get_or list i 0) ++ (after ∷ [])) out₁ r₁ out₂ r₂ → Laid (longest_number * (i + 1))
    (each after (take (i + 1) list) []) out at out₂ r₂
one-number-more after list i inside h x y =
    let e : take (i + 1) list ≡ take i list ++ (get_or list i 0 ∷ []) = ap (λ (k : ℕ). take k list) (add-one i) ∙ take-suc list i 0 inside in
    resaid (each_last after (take i list) (get_or list i 0) ∙ ap (λ (l : List ℕ). each after l []) (sym e)) (omega arith)
    (behind-numbers after (take i list) h x y)

-- octets put where they have room
pub put-laid : {text out out' : List ℕ} {at : ℕ} → at + length text ≤ length out → out' ≡ put out at text → Laid
    (length text) text out at out' (at + length text)
put-laid {text} {out} {at = at} h e = record { leaves = e ∙ sym (put-fits out at text h); behind = refl; near = omega arith }

-- Puts, where there is no room and where there is.
pub puts_none : {most : ℕ} {text out : List ℕ} {at : ℕ} → length out < at + most → Puts most text out at out at
unfolding pick
puts_none h = record { leaves = simp (lt-ltb _ _ h); behind = simp (lt-ltb _ _ h) }

module _ {most : ℕ} {text out out' : List ℕ} {at r : ℕ} (room : at + most ≤ length out) where
  pub puts_laid : Laid most text out at out' r → Puts most text out at out' r
  unfolding pick
  puts_laid l = record { leaves = l.leaves ∙ simp (le-ltb _ _ room); behind = l.behind ∙ simp (le-ltb _ _ room) }

  pub laid_puts : length text ≤ most → Puts most text out at out' r → Laid most text out at out' r
  unfolding pick
  laid_puts short p =
      let b : r ≡ at + length text = p.behind ∙ simp (le-ltb _ _ room) in
      record { leaves = p.leaves ∙ simp (le-ltb _ _ room); behind = b; near = omega arith }

-- a number and the character behind it, and numbers
module _ {out out' : List ℕ} {at r : ℕ} where
  pub number-laid : (n after : ℕ) → at + longest_number ≤ length out → Puts longest_number (decimal n ++ (after ∷ [])) out at out' r
      → Laid longest_number (decimal n ++ (after ∷ [])) out at out' r
  number-laid n after room p = laid_puts room (simp length-append (omega (arith, decimal-short n))) p

  pub numbers-laid : (after : ℕ) (ns : List ℕ) → at + longest_number * length ns ≤ length out → Puts (longest_number * length ns)
      (each after ns []) out at out' r
      → Laid (longest_number * length ns) (each after ns []) out at out' r
  numbers-laid after ns room p = laid_puts room (omega (arith, each-short after ns [])) p

-- what is put, and where it ends
pub one-put : {most : ℕ} {text out : List ℕ} {at r q : ℕ} {out₁ out₂ : List ℕ} → Puts most text out at out₁ r → Puts most text out at out₂ q
    → ◌≡◌ {A = ℕ × List ℕ} (r, out₁) (q, out₂)
one-put a b = simp (a.behind ∙ sym b.behind, a.leaves, b.leaves)
