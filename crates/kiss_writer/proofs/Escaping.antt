-- Octets escaped one after another.
use Rattle.std.specs.Prelude.{cond}
use Rattle.std.specs.List.{filter}
use Prim.Native.Nat.{ℕ, ◌+◌, ◌≤◌, ◌<◌}
use mathlib.Core.Path.{◌≡◌, refl, sym, ap, subst, ◌∙◌}
use mathlib.Core.Bool.{Bool, true, false, ◌||◌, true≢false, false≢true}
use mathlib.Core.List.{List, [], ◌∷◌, ◌++◌, append_assoc}
use native.Mathlib.Omega.{arith}
use native.Mathlib.Numerals.{add-one}
use lib.ListN.{length, get_or, drop, set, length-set, length-append, drop_of_length-le}
use lib.Seq.{sets, drop-cons}
use lib.Dec.{eqb}
use borrow.Author.Tests.{eq-eqb, ne_eqb}
use Rattle.octets.specs.Pick.{pick}
use Rattle.kiss.specs.Stream.{mark, escape, for_mark, for_escape, data_frame, escaped_octet, escaped}
use Rattle.kiss_writer.specs.Export.{body_block}
use Rattle.kiss_writer.specs.Asked.{BlockRoom}
use Rattle.kiss_writer.proofs.Laid.{Laying, laying_first, laying_one, laying_two, laying_end}

escaped-more : (xs : List ℕ) (i : ℕ) → i < length xs → escaped (drop i xs) ≡ escaped_octet (get_or xs i 0) ++ escaped (drop (i + 1) xs)
escaped-more xs i h = ap escaped (drop-cons xs i 0 h ∙ ap (λ (k : ℕ). get_or xs i 0 ∷ drop k xs) (sym (add-one i)))

escaped-over : (xs : List ℕ) (i : ℕ) → length xs ≤ i → escaped (drop i xs) ≡ []
escaped-over xs i h = ap escaped (drop_of_length-le xs h)

module _ (x : ℕ) where
  for_mark_lem : x ≡ mark → escaped_octet x ≡ escape ∷ for_mark ∷ []
  unfolding pick
  for_mark_lem e = rw (eq-eqb x mark e)

  for_escape_lem : (x ≡ mark → ⊥) → x ≡ escape → escaped_octet x ≡ escape ∷ for_escape ∷ []
  unfolding pick
  for_escape_lem n e = rw (ne_eqb x mark n, eq-eqb x escape e)

  for_itself : (x ≡ mark → ⊥) → (x ≡ escape → ⊥) → escaped_octet x ≡ x ∷ []
  unfolding pick
  for_itself n m = rw (ne_eqb x mark n, ne_eqb x escape m)

  wide : (eqb x mark || eqb x escape) ≡ true → length (escaped_octet x) ≡ 2
  unfolding pick
  wide = go (eqb x mark) (eqb x escape)
    where
      go : (t u : Bool) → (t || u) ≡ true → length (pick t (escape ∷ for_mark ∷ []) (pick u (escape ∷ for_escape ∷ []) (x ∷ []))) ≡ 2
      go true u h = refl
      go false true h = refl
      go false false h = absurd (false≢true h)

  narrow : (eqb x mark || eqb x escape) ≡ false → length (escaped_octet x) ≡ 1
  unfolding pick
  narrow = go (eqb x mark) (eqb x escape)
    where
      go : (t u : Bool) → (t || u) ≡ false → length (pick t (escape ∷ for_mark ∷ []) (pick u (escape ∷ for_escape ∷ []) (x ∷ []))) ≡ 1
      go true u h = absurd (true≢false h)
      go false true h = absurd (true≢false h)
      go false false h = refl

-- ---- how many are escaped

abbrev pub doubled : ℕ → Bool
doubled x = eqb x mark || eqb x escape

one_more : (x : ℕ) (ys : List ℕ) → length (cond (doubled x) (x ∷ ys) ys) + 1 ≡ length (escaped_octet x) + length ys
one_more x ys = go (doubled x) refl
  where
    go : (b : Bool) → doubled x ≡ b → length (cond (doubled x) (x ∷ ys) ys) + 1 ≡ length (escaped_octet x) + length ys
    go true e = rw e (omega (arith, wide x e))
    go false e = rw e (omega (arith, narrow x e))

pub length-escaped : (xs : List ℕ) → length (escaped xs) ≡ length xs + length (filter doubled xs)
length-escaped [] = refl
length-escaped (x ∷ xs) =
    omega (arith, length-append (escaped_octet x) (escaped xs), length-escaped xs, one_more x (filter doubled xs))

-- ---- laid one after another, with a 0xC0 behind

abbrev closed : List ℕ → List ℕ
closed s = escaped s ++ mark ∷ []

length-closed : (s : List ℕ) → length (closed s) ≡ length (escaped s) + 1
length-closed s = length-append (escaped s) (mark ∷ [])

-- the greatest number of octets lent
abbrev most : ℕ
most = 18446744073709551615

pub record Block (o₀ body : List ℕ) (k : ℕ) (o : List ℕ) (n i : ℕ) : Type 0 where
  pub inside : i ≤ length body
  pub few : length o₀ ≤ most
  pub room : k + length (escaped body ++ mark ∷ []) ≤ length o₀
  pub laying : Laying o₀ k (escaped body ++ mark ∷ []) o n (escaped (drop i body) ++ mark ∷ [])

-- m octets more
pub record More (o : List ℕ) (n m : ℕ) : Type 0 where
  pub room : n + m ≤ length o
  pub few : n + m ≤ most

some-octets : (x : ℕ) → 1 ≤ length (escaped_octet x)
unfolding pick
some-octets x = go (eqb x mark) (eqb x escape)
  where
    go : (t u : Bool) → 1 ≤ length (pick t (escape ∷ for_mark ∷ []) (pick u (escape ∷ for_escape ∷ []) (x ∷ [])))
    go true u = omega arith
    go false true = omega arith
    go false false = omega arith

module _ {o body : List ℕ} {at : ℕ} (t : BlockRoom body at o) (few : length o ≤ most) where
  pub block_begins : More o at 2
  unfolding pick
  block_begins = record { room = omega (arith, t.room, length-closed body); few = omega (arith, t.room, length-closed body) }

  -- the type octet was laid before
  pub block_first : Block (set o at data_frame) body (at + 1) (set o at data_frame) (at + 1) 0
  unfolding pick
  block_first =
      record {
        inside = omega arith;
        few = simp length-set (omega arith);
        room = simp length-set (omega (arith, t.room));
        laying = laying_first (set o at data_frame) (at + 1) (closed body);
      }

module _ {o₀ body : List ℕ} {k : ℕ} {o : List ℕ} {n i : ℕ} (t : Block o₀ body k o n i) where
  pub block_room_end : More o n 1
  block_room_end =
      let h : n + 1 ≤ length o = omega (arith, t.room, t.laying.same, t.laying.ends, length-closed (drop i body)) in
      record { room = h; few = omega (arith, t.few, t.laying.same) }

  module _ (h : i < length body) where
    pub block_room : More o n 2
    block_room =
        let g : n + 2 ≤ length o =
        omega (
          arith,
          t.room,
          t.laying.same,
          t.laying.ends,
          length-closed (drop i body),
          ap length (escaped-more body i h),
          length-append (escaped_octet (get_or body i 0)) (escaped (drop (i + 1) body)),
          some-octets (get_or body i 0),
        ) in
        record { room = g; few = omega (arith, t.few, t.laying.same) }

    next : (u : List ℕ) → escaped_octet (get_or body i 0) ≡ u → Laying o₀ k (closed body) o n (u ++ closed (drop (i + 1) body))
    next u e =
        subst (λ (l : List ℕ). Laying o₀ k (closed body) o n l)
        (ap (λ (l : List ℕ). l ++ mark ∷ []) (escaped-more body i h) ∙ append_assoc (escaped_octet (get_or body i 0)) _ _ ∙ ap
        (λ (l : List ℕ). l ++ closed (drop (i + 1) body)) e)
        t.laying

    pub block_mark : get_or body i 0 ≡ mark → Block o₀ body k (set (set o n escape) (n + 1) for_mark) (n + 2) (i + 1)
    block_mark e = record { inside = omega arith; few = t.few; room = t.room; laying = laying_two (next _ (for_mark_lem _ e)) }

    pub block_escape : (get_or body i 0 ≡ mark → ⊥) → get_or body i 0 ≡ escape → Block o₀ body k (set (set o n escape) (n + 1) for_escape)
        (n + 2) (i + 1)
    block_escape m e = record { inside = omega arith; few = t.few; room = t.room; laying = laying_two (next _ (for_escape_lem _ m e)) }

    pub block_itself : (get_or body i 0 ≡ mark → ⊥) → (get_or body i 0 ≡ escape → ⊥) → Block o₀ body k (set o n (get_or body i 0)) (n + 1) (i + 1)
    block_itself m e = record { inside = omega arith; few = t.few; room = t.room; laying = laying_one (next _ (for_itself _ m e)) }

  block_over : length body ≤ i → Laying o₀ k (closed body) o n (mark ∷ [])
  block_over h = subst (λ (l : List ℕ). Laying o₀ k (closed body) o n (l ++ mark ∷ [])) (escaped-over body i h) t.laying

  block_last : length body ≤ i → (n + 1 ≡ k + length (closed body)) × (set o n mark ≡ sets o₀ k (closed body))
  block_last h = laying_end (laying_one (block_over h))

pub block_end : (o body : List ℕ) (at : ℕ) {o₁ : List ℕ} {n i : ℕ} → Block (set o at data_frame) body (at + 1) o₁ n i → length body ≤ i
    → (n + 1 ≡ at + length (body_block body)) × (set o₁ n mark ≡ sets o at (body_block body))
unfolding pick
block_end o body at t h =
    let e = block_last t h in
    (omega (arith, e.0), e.1 ∙ ap (λ (j : ℕ). sets (set o at data_frame) j (closed body)) (add-one at))
