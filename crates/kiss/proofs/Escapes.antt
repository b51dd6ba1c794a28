-- Escapes octet by octet: what is taken off, whether one was wrong, and whether the last is cut.
use Prim.Native.Nat.{ℕ}
use mathlib.Core.Path.{◌≡◌, refl, sym, ap, ◌∙◌}
use mathlib.Core.Bool.{Bool, true, false, not, ◌&&◌, ◌||◌, cond}
use mathlib.Core.List.{List, [], ◌∷◌, ◌++◌}
use mathlib.Core.Option.{Option, none, some}
use lib.Dec.{eqb}
use Rattle.octets.specs.Pick.{pick}
use Rattle.kiss.specs.Stream.{mark, escape, for_mark, for_escape, with_first, unescaped}
use Rattle.kiss.specs.Reader.{meant, misplaced}

-- e: an 0xDB stands before
abbrev pub plain : Bool → List ℕ → List ℕ
plain e [] = []
plain true (x ∷ s) = meant x ∷ plain false s
plain false (x ∷ s) = cond (eqb x escape) (plain true s) (x ∷ plain false s)

abbrev pub wrong : Bool → List ℕ → Bool
wrong e [] = false
wrong true (x ∷ s) = misplaced x || wrong false s
wrong false (x ∷ s) = cond (eqb x escape) (wrong true s) (wrong false s)

abbrev pub unanswered : Bool → List ℕ → Bool
unanswered e [] = e
unanswered true (x ∷ s) = unanswered false s
unanswered false (x ∷ s) = cond (eqb x escape) (unanswered true s) (unanswered false s)

-- ---- the whole

abbrev verdict : Bool → Bool → List ℕ → Option (List ℕ)
verdict w o s = pick (w || o) none (some s)

behind : (x : ℕ) (w o : Bool) (s : List ℕ) → with_first x (verdict w o s) ≡ verdict w o (x ∷ s)
unfolding pick
behind x true o s = refl
behind x false true s = refl
behind x false false s = refl

-- an octet behind 0xDB
answered : (y : ℕ) (w o : Bool) (s : List ℕ) (r : Option (List ℕ)) → r ≡ verdict w o s
    → pick (eqb y for_mark) (with_first mark r) (pick (eqb y for_escape) (with_first escape r) none) ≡ verdict (misplaced y || w) o
    (meant y ∷ s)
unfolding pick meant
answered y w o s r e = go (eqb y for_mark) (eqb y for_escape)
  where
    go : (t u : Bool) → pick t (with_first mark r) (pick u (with_first escape r) none) ≡ verdict (not t && not u || w) o
        (pick t mark (pick u escape y) ∷ s)
    go true u = ap (with_first mark) e ∙ behind mark w o s
    go false true = ap (with_first escape) e ∙ behind escape w o s
    go false false = refl

pub unescaped-is : (s : List ℕ) → unescaped s ≡ pick (wrong false s || unanswered false s) none (some (plain false s))
unfolding unescaped pick
unescaped-is [] = refl
unescaped-is (x ∷ []) = go (eqb x escape)
  where
    go : (t : Bool) → pick t none (some (x ∷ [])) ≡ verdict (cond t false false) (cond t true false) (cond t [] (x ∷ []))
    go true = refl
    go false = refl
unescaped-is (x ∷ y ∷ s) = go (eqb x escape) (unescaped-is s) (unescaped-is (y ∷ s))
  where
    go : (t : Bool) → unescaped s ≡ verdict (wrong false s) (unanswered false s) (plain false s)
        → unescaped (y ∷ s) ≡ verdict (wrong false (y ∷ s)) (unanswered false (y ∷ s)) (plain false (y ∷ s))
        → pick t (pick (eqb y for_mark) (with_first mark (unescaped s)) (pick (eqb y for_escape) (with_first escape (unescaped s)) none))
        (with_first x (unescaped (y ∷ s)))
        ≡ verdict (cond t (wrong true (y ∷ s)) (wrong false (y ∷ s))) (cond t (unanswered true (y ∷ s)) (unanswered false (y ∷ s)))
        (cond t (plain true (y ∷ s)) (x ∷ plain false (y ∷ s)))
    go true a b = answered y (wrong false s) (unanswered false s) (plain false s) (unescaped s) a
    go false a b = ap (with_first x) b ∙ behind x (wrong false (y ∷ s)) (unanswered false (y ∷ s)) (plain false (y ∷ s))

-- ---- one octet more behind them

pub plain_more : (e : Bool) (p : List ℕ) (x : ℕ) → plain e (p ++ x ∷ []) ≡ plain e p ++ plain (unanswered e p) (x ∷ [])
plain_more e [] x = refl
plain_more true (y ∷ p) x = ap (λ (r : List ℕ). meant y ∷ r) (plain_more false p x)
plain_more false (y ∷ p) x = go (eqb y escape) (plain_more true p x) (plain_more false p x)
  where
    go : (t : Bool) → plain true (p ++ x ∷ []) ≡ plain true p ++ plain (unanswered true p) (x ∷ [])
        → plain false (p ++ x ∷ []) ≡ plain false p ++ plain (unanswered false p) (x ∷ [])
        → cond t (plain true (p ++ x ∷ [])) (y ∷ plain false (p ++ x ∷ []))
        ≡ cond t (plain true p) (y ∷ plain false p) ++ plain (cond t (unanswered true p) (unanswered false p)) (x ∷ [])
    go true a b = a
    go false a b = ap (λ (r : List ℕ). y ∷ r) b

pub wrong-more : (e : Bool) (p : List ℕ) (x : ℕ) → wrong e (p ++ x ∷ []) ≡ (wrong e p || wrong (unanswered e p) (x ∷ []))
wrong-more e [] x = refl
wrong-more true (y ∷ p) x = ap (λ (r : Bool). misplaced y || r) (wrong-more false p x) ∙ sym (or_assoc (misplaced y) _ _)
  where
    or_assoc : (a b c : Bool) → (a || b || c) ≡ (a || (b || c))
    or_assoc true b c = refl
    or_assoc false b c = refl
wrong-more false (y ∷ p) x = go (eqb y escape) (wrong-more true p x) (wrong-more false p x)
  where
    go : (t : Bool) → wrong true (p ++ x ∷ []) ≡ (wrong true p || wrong (unanswered true p) (x ∷ []))
        → wrong false (p ++ x ∷ []) ≡ (wrong false p || wrong (unanswered false p) (x ∷ []))
        → cond t (wrong true (p ++ x ∷ [])) (wrong false (p ++ x ∷ []))
        ≡ (cond t (wrong true p) (wrong false p) || wrong (cond t (unanswered true p) (unanswered false p)) (x ∷ []))
    go true a b = a
    go false a b = b

pub unanswered_more : (e : Bool) (p : List ℕ) (x : ℕ) → unanswered e (p ++ x ∷ []) ≡ unanswered (unanswered e p) (x ∷ [])
unanswered_more e [] x = refl
unanswered_more true (y ∷ p) x = unanswered_more false p x
unanswered_more false (y ∷ p) x = go (eqb y escape) (unanswered_more true p x) (unanswered_more false p x)
  where
    go : (t : Bool) → unanswered true (p ++ x ∷ []) ≡ unanswered (unanswered true p) (x ∷ [])
        → unanswered false (p ++ x ∷ []) ≡ unanswered (unanswered false p) (x ∷ [])
        → cond t (unanswered true (p ++ x ∷ [])) (unanswered false (p ++ x ∷ [])) ≡ unanswered
        (cond t (unanswered true p) (unanswered false p)) (x ∷ [])
    go true a b = a
    go false a b = b
