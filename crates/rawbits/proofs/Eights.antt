-- Eight bits at once are the octet's bits one after another.
use Prim.Native.Nat.{ℕ, zero, suc, ◌+◌, ◌-◌, ◌*◌, ◌/◌, ◌%◌, ◌^◌, ◌≤◌, ◌<◌}
use mathlib.Core.Path.{◌≡◌, refl, sym, ap, ap₂, ◌∙◌}
use mathlib.Core.Bool.{Bool, true, false, ◌&&◌, false≢true}
use mathlib.Core.List.{List, [], ◌∷◌, ◌++◌, foldl}
use mathlib.Core.Logic.{◌⊎◌, inl, inr}
use native.Mathlib.Omega.{arith}
use lib.ListN.{length, get_or, take, drop, set, length-take, length-drop, take-append-drop}
use lib.Dec.{ltb, leb, eqb}
use borrow.Author.Tests.{ltb-true, leb-true, eqb-true}
use Rattle.octets.proofs.Tests.{and_true_left, and_true_right, or_true}
use Rattle.crc.proofs.Ruled.{holds_from, ruled}
use Rattle.bits.specs.Rows.{ones, bits_of, value_of}
use Rattle.bits.specs.Rows.Order.{high_first}
use Rattle.stretch.specs.declared.Found.TheVariants.{Nothing}
use Rattle.rawbits.specs.Recording.{begins}
use Rattle.rawbits.specs.Reader.{Standing, standing, row, counted, Passing, passed, octet_passed}
use Rattle.rawbits.specs.Eight.{lead, trail, low, eight_passed, calm, says_right, Eights}
use Rattle.rawbits.specs.declared.Row.{Row}
use Rattle.rawbits.proofs.Destuffing.{run_after, run-append, run-ones}
use Rattle.rawbits.proofs.Calm.{calm_fewer, mark_after, added_all, stored_all, calm-passed, mark-last, eight_added, eight_stored}

begins-whole : (w s : List Bool) → begins w s ≡ true → length s ≤ length w → s ≡ w
begins-whole [] [] h l = refl
begins-whole [] (y ∷ s) h l = absurd (omega arith)
begins-whole (x ∷ w) [] h l = absurd (false≢true h)
begins-whole (true ∷ w) (true ∷ s) h l = ap (λ (r : List Bool). true ∷ r) (begins-whole w s h (omega arith))
begins-whole (true ∷ w) (false ∷ s) h l = absurd (false≢true h)
begins-whole (false ∷ w) (true ∷ s) h l = absurd (false≢true h)
begins-whole (false ∷ w) (false ∷ s) h l = ap (λ (r : List Bool). false ∷ r) (begins-whole w s h (omega arith))

-- what an entry says of an octet's bits that are calm behind k 1s
record Says (s : List Bool) (entry k : ℕ) : Type 0 where
  pub number : low entry ≡ value_of s
  pub calm : calm k s ≡ true
  pub few : trail entry ≤ 7
  pub ends : s ≡ take (7 - trail entry) s ++ false ∷ ones (trail entry)

length-ones : (k : ℕ) → length (ones k) ≡ k
length-ones zero = refl
length-ones (suc k) = ap suc (length-ones k)

module _ (s : List Bool) (entry k : ℕ) (l : length s ≡ 8) (h : says_right s entry ≡ true) (f : k + lead entry < 5) where
  number-right : low entry ≡ value_of s
  unfolding says_right
  number-right = eqb-true (low entry) (value_of s) (and_true_left (eqb (low entry) (value_of s)) _ h)

  rest-right : (calm (4 - lead entry) s && leb (trail entry) 7 && begins (false ∷ ones (trail entry)) (drop (7 - trail entry) s)) ≡ true
  unfolding says_right
  rest-right = go (or_true (leb 5 (lead entry)) _ (and_true_right (eqb (low entry) (value_of s)) _ h))
    where
      go : {b : Bool} → (leb 5 (lead entry) ≡ true) ⊎ (b ≡ true) → b ≡ true
      go (inl e) = absurd (omega (arith, leb-true 5 (lead entry) e))
      go (inr e) = e

  says : Says s entry k
  says =
      record {
        number = number-right;
        calm = calm_fewer k (4 - lead entry) s (omega arith) (and_true_left (calm (4 - lead entry) s) (leb (trail entry) 7) first);
        few = few;
        ends =
            sym (take-append-drop (7 - trail entry) s)
            ∙ ap (λ (r : List Bool). take (7 - trail entry) s ++ r)
            (begins-whole (false ∷ ones (trail entry)) (drop (7 - trail entry) s)
            (and_true_right (calm (4 - lead entry) s && leb (trail entry) 7) _ rest-right)
            (simp length-drop (omega (arith, length-ones (trail entry), few))));
      }
    where
      first : (calm (4 - lead entry) s && leb (trail entry) 7) ≡ true
      first = and_true_left (calm (4 - lead entry) s && leb (trail entry) 7)
          (begins (false ∷ ones (trail entry)) (drop (7 - trail entry) s)) rest-right

      few : trail entry ≤ 7
      few = leb-true (trail entry) 7 (and_true_right (calm (4 - lead entry) s) (leb (trail entry) 7) first)

-- THE law: an entry at once is its bits one after another
pub at_once : (a : Standing) (s : List Bool) (entry : ℕ) → length s ≡ 8 → says_right s entry ≡ true → a.reader.ones + lead entry < 5
    → a.reader.row.begun < 8
    → a.reader.row.last < 256 → record { standing = eight_passed a entry; found = Nothing } ≡ foldl passed
    (record { standing = a; found = Nothing }) s
unfolding eight_passed
at_once a s entry l h f b x =
    sym
    (calm-passed s a.reader.seen a.reader.ones a.reader.abandoned a.reader.mark r a.kept Nothing n refl (omega arith)
    t.calm
    ∙ ap₂ (λ (k m : ℕ). to k m (added_all n r s) (stored_all n r s a.kept)) run mark
    ∙ ap₂ (λ (q : Row) (kept : List ℕ). to (trail entry) ((r.begun + 15 - trail entry) % 8) q kept) (eight_added n s r l b x)
    (eight_stored n s r l b x a.kept)
    ∙ ap (λ (v : ℕ). to (trail entry) ((r.begun + 15 - trail entry) % 8) (row v r.begun (counted n r.whole))
    (set a.kept r.whole ((v * 256 + r.last) / 2 ^ (8 - r.begun) % 256)))
    (sym t.number))
  where
    r : Row
    r = a.reader.row

    n : ℕ
    n = length a.kept

    t : Says s entry a.reader.ones
    t = says s entry a.reader.ones l h f

    to : ℕ → ℕ → Row → List ℕ → Passing
    to k m q kept =
        record {
          standing = standing (record { seen = a.reader.seen; ones = k; abandoned = a.reader.abandoned; mark = m; row = q })
              kept;
          found = Nothing;
        }

    run : run_after a.reader.ones s ≡ trail entry
    run =
        ap (run_after a.reader.ones) t.ends ∙ run-append a.reader.ones (take (7 - trail entry) s) (false ∷ ones (trail entry))
        ∙ run-ones 0 (trail entry)
        ∙ (let e : 0 + trail entry ≡ trail entry = omega arith in e)

    mark : mark_after n a.reader.mark r s ≡ (r.begun + 15 - trail entry) % 8
    mark =
        ap (mark_after n a.reader.mark r) t.ends ∙ mark-last n a.reader.mark (take (7 - trail entry) s) (trail entry) r b
        ∙ (let e : (r.begun + length (take (7 - trail entry) s)) % 8 ≡ (r.begun + 15 - trail entry) % 8 = simp length-take
        (omega (arith, t.few)) in e)

-- a table that is right at each place, by one test
pub table-right : (table : List ℕ) → length table ≡ 256 → holds_from (λ x entry. says_right (bits_of high_first 8 x) entry) 0 table ≡ true
    → Eights table
table-right table l h = record { all = l; each = λ x b. ruled (λ y entry. says_right (bits_of high_first 8 y) entry) table h x (omega arith) }

pub calm-begun : (k begun : ℕ) → (ltb k 5 && ltb begun 8) ≡ true → begun < 8
calm-begun k begun h = ltb-true begun 8 (and_true_right (ltb k 5) (ltb begun 8) h)

-- the entry of an octet, in the table
pub octet-at-once : (a : Standing) (x i : ℕ) (table : List ℕ) → Eights table → x < 256 → i ≡ x
    → (ltb (a.reader.ones + lead (get_or table i 0)) 5 && ltb a.reader.row.begun 8) ≡ true → a.reader.row.last < 256
    → {s : Standing} → s ≡ eight_passed a (get_or table i 0) → record { standing = s; found = Nothing } ≡ octet_passed a x
unfolding octet_passed
octet-at-once a x i table t b e f l k =
    let entry = get_or table i 0 in
    let right : says_right (bits_of high_first 8 x) entry ≡ true = ap (λ (j : ℕ). says_right (bits_of high_first 8 x) (get_or table j 0)) e
    ∙ t.each x b in
    ap (λ (q : Standing). record { standing = q; found = Nothing }) k
    ∙ at_once a (bits_of high_first 8 x) entry refl right
    (ltb-true (a.reader.ones + lead entry) 5 (and_true_left (ltb (a.reader.ones + lead entry) 5) (ltb a.reader.row.begun 8) f))
    (ltb-true a.reader.row.begun 8 (and_true_right (ltb (a.reader.ones + lead entry) 5) (ltb a.reader.row.begun 8) f)) l
