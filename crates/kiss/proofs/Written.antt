-- Escapes are undone.
use Prim.Native.Nat.{ℕ}
use mathlib.Core.Path.{◌≡◌, refl, sym, ap, ◌∙◌}
use mathlib.Core.Bool.{Bool, true, false}
use mathlib.Core.List.{List, [], ◌∷◌, ◌++◌}
use mathlib.Core.Option.{Option, none, some, some-injective}
use native.Mathlib.Omega.{arith}
use lib.Dec.{eqb}
use borrow.Author.Tests.{eqb-true, eqb-false, ne_eqb}
use Rattle.octets.specs.Pick.{pick}
use Rattle.kiss.specs.Stream.{mark, escape, for_mark, for_escape, onto, parted, with_first, unescaped, escaped_octet, escaped}
use Rattle.kiss.specs.Statements.{NoMark, EscapesUndone}

-- an octet is 0xC0, or 0xDB, or stands for itself
pub three : (P : ℕ → Type 0) → P mark → P escape → ((x : ℕ) → (x ≡ mark → ⊥) → (x ≡ escape → ⊥) → P x) → (x : ℕ) → P x
three P p q r x = go (eqb x mark) refl (eqb x escape) refl
  where
    go : (t : Bool) → eqb x mark ≡ t → (u : Bool) → eqb x escape ≡ u → P x
    go true e u f = rw (eqb-true x mark e) p
    go false e true f = rw (eqb-true x escape f) q
    go false e false f = r x (eqb-false x mark e) (eqb-false x escape f)

module _ {x : ℕ} (m : x ≡ mark → ⊥) (e : x ≡ escape → ⊥) where
  pub itself : escaped_octet x ≡ x ∷ []
  unfolding pick
  itself = rw (ne_eqb x mark m, ne_eqb x escape e)

unescaped-plain : (x : ℕ) (s : List ℕ) → (x ≡ escape → ⊥) → unescaped (x ∷ s) ≡ with_first x (unescaped s)
unfolding unescaped pick
unescaped-plain x [] e = rw (ne_eqb x escape e)
unescaped-plain x (y ∷ s) e = rw (ne_eqb x escape e)

again-octet : (x : ℕ) (s : List ℕ) → unescaped (escaped_octet x ++ s) ≡ with_first x (unescaped s)
unfolding unescaped pick
again-octet x s =
    three (λ (y : ℕ). unescaped (escaped_octet y ++ s) ≡ with_first y (unescaped s)) refl refl
    (λ y m e. ap (λ (o : List ℕ). unescaped (o ++ s)) (itself m e) ∙ unescaped-plain y s e) x

again : (s : List ℕ) → unescaped (escaped s) ≡ some s
unfolding unescaped
again [] = refl
again (x ∷ s) = again-octet x (escaped s) ∙ ap (with_first x) (again s)

-- no 0xC0 within
inside : (s : List ℕ) → NoMark (escaped s)
unfolding pick
inside [] = tt
inside (x ∷ s) =
    three (λ (y : ℕ). NoMark (escaped_octet y ++ escaped s)) ((λ h. omega arith), ((λ h. omega arith), inside s))
    ((λ h. omega arith), ((λ h. omega arith), inside s))
    (λ y m e. rw (itself m e) (m, inside s)) x

pub parted-none : (p r : List ℕ) → NoMark p → parted (p ++ mark ∷ r) ≡ p ∷ parted r
unfolding pick
parted-none [] r h = refl
parted-none (x ∷ p) r h = rw (ne_eqb x mark h.0) (ap (onto x) (parted-none p r h.1))

-- and only what was escaped
record First (x : ℕ) (o : Option (List ℕ)) (s : List ℕ) : Type 0 where
  pub rest : List ℕ
  pub whole : s ≡ x ∷ rest
  pub from : o ≡ some rest

none-some : {A : Type 0} (s : List ℕ) → none ≡ some s → A
none-some s e = absurd (let z : ◌≡◌ {A = ℕ} 0 1 = cc in omega arith)

first_of : (x : ℕ) (o : Option (List ℕ)) (s : List ℕ) → with_first x o ≡ some s → First x o s
first_of x none s e = none-some s e
first_of x (some q) s e = record { rest = q; whole = sym (some-injective (x ∷ q) s e); from = refl }

escaped-two : (x y z : ℕ) (s q p : List ℕ) → eqb x escape ≡ true → s ≡ z ∷ q → escaped_octet z ≡ escape ∷ y ∷ [] → escaped q ≡ p
    → escaped s ≡ x ∷ y ∷ p
escaped-two x y z s q p h w o e = rw (w, o, e) (ap (λ (n : ℕ). n ∷ y ∷ p) (sym (eqb-true x escape h)))

escaped-one : (x : ℕ) (s q p : List ℕ) → (x ≡ mark → ⊥) → eqb x escape ≡ false → s ≡ x ∷ q → escaped q ≡ p → escaped s ≡ x ∷ p
escaped-one x s q p m h w e = rw (w, itself m (eqb-false x escape h), e)

only : (p s : List ℕ) → NoMark p → unescaped p ≡ some s → escaped s ≡ p
unfolding unescaped pick
only [] s h e = ap escaped (sym (some-injective [] s e))
only (x ∷ []) s h e = go (eqb x escape) refl e
  where
    go : (t : Bool) → eqb x escape ≡ t → pick t none (some (x ∷ [])) ≡ some s → escaped s ≡ x ∷ []
    go true k e = none-some s e
    go false k e = escaped-one x s [] [] h.0 k (sym (some-injective (x ∷ []) s e)) refl
only (x ∷ y ∷ p) s h e = go (eqb x escape) refl (eqb y for_mark) refl (eqb y for_escape) refl e (only p) (only (y ∷ p))
  where
    go : (t : Bool) → eqb x escape ≡ t → (u : Bool) → eqb y for_mark ≡ u → (v : Bool) → eqb y for_escape ≡ v
        → pick t (pick u (with_first mark (unescaped p)) (pick v (with_first escape (unescaped p)) none))
        (with_first x (unescaped (y ∷ p))) ≡ some s
        → ((s : List ℕ) → NoMark p → unescaped p ≡ some s → escaped s ≡ p)
        → ((s : List ℕ) → NoMark (y ∷ p) → unescaped (y ∷ p) ≡ some s → escaped s ≡ y ∷ p)
        → escaped s ≡ x ∷ y ∷ p
    go true k true l v m e rec more =
        let b = first_of mark (unescaped p) s e in
        escaped-two x y mark s b.rest p k b.whole (rw (eqb-true y for_mark l)) (rec b.rest h.1.1 b.from)
    go true k false l true m e rec more =
        let b = first_of escape (unescaped p) s e in
        escaped-two x y escape s b.rest p k b.whole (rw (eqb-true y for_escape m)) (rec b.rest h.1.1 b.from)
    go true k false l false m e rec more = none-some s e
    go false k u l v m e rec more =
        let b = first_of x (unescaped (y ∷ p)) s e in
        escaped-one x s b.rest (y ∷ p) h.0 k b.whole (more b.rest h.1 b.from)

pub escapes_undone : EscapesUndone
escapes_undone s = record { inside = inside s; again = again s; only = λ p. only p s }
