-- Rows looked at one after another.
use Prim.Native.Nat.{ℕ, suc, ◌+◌, ◌-◌, ◌/◌, ◌≤◌, ◌<◌}
use native.Mathlib.Nat.{sub-zero}
use native.Mathlib.Omega.{arith}
use mathlib.Core.Path.{◌≡◌, sym, ap, ◌∙◌}
use mathlib.Core.Bool.{true, false, not}
use mathlib.Core.List.{List, [], ◌∷◌}
use mathlib.Core.Option.{none}
use lib.ListN.{length, take, drop, length-drop}
use lib.Seq.{drop-drop, take_all}
use borrow.Author.Tests.{le-leb, lt-leb, lt-ltb, le-ltb, eq-eqb, ne_eqb, not-true, not-false}
use Rattle.octets.specs.Pick.{pick}
use Rattle.rules.specs.Channel.{Handed}
use Rattle.table.specs.Table.{Row, row_in, rows_in}
use Rattle.table.specs.Look.{at_hand, reason_at, behind_row, behind_packet, left, along, ill_formed, looked, ended}
use Rattle.table.specs.declared.Verdict.TheVariants.{Passes, Faulty}
use Rattle.table.specs.declared.Check.{Check}
use Rattle.table.specs.declared.Looked.{Looked}
use Rattle.table.specs.declared.Wanted.TheVariants as wanted
use Rattle.table.proofs.Reasons.{out_of_order, in_order, no_packet_lem}

-- the whole rows in octets from index i on
abbrev pub rows_at : List ℕ → ℕ → List Row
rows_at w i = rows_in ((length w - i) / 17) (drop i w)

pub rows_none : (w : List ℕ) (i : ℕ) → length w - i < 17 → rows_at w i ≡ []
rows_none w i h =
    let none : (length w - i) / 17 ≡ 0 = omega arith in
    rw none

pub rows_next : (w : List ℕ) (i : ℕ) → 17 ≤ length w - i → rows_at w i ≡ row_in (drop i w) ∷ rows_at w (i + 17)
rows_next w i h =
    let one : (length w - i) / 17 ≡ suc ((length w - (i + 17)) / 17) = omega arith in
    rw one (ap (λ (s : List ℕ). row_in (drop i w) ∷ rows_in ((length w - (i + 17)) / 17) s) (drop-drop 17 i w))

module _ (c : Check) (h : Handed) (used : ℕ) where
  pub all-looked : (rs : List Row) → c.rows ≤ c.row → along c h used rs ≡ left c used (wanted.Nothing Passes)
  unfolding along pick
  all-looked [] l = simp (le-leb _ _ l)
  all-looked (r ∷ rs) l = simp (le-leb _ _ l)

  module _ (l : c.row < c.rows) where
    pub none-at-hand : along c h used [] ≡ left c used wanted.Rows
    unfolding along pick
    none-at-hand = simp (lt-leb _ _ l)

    module _ (r : Row) (rs : List Row) where
      pub later : c.number < r.packet → along c h used (r ∷ rs) ≡ left (behind_packet c) used wanted.Packet
      unfolding along pick
      later n = simp (lt-leb _ _ l, lt-ltb _ _ n)

      module _ (n : r.packet ≤ c.number) where
        pub faulty : (reason_at c (at_hand c h r) r ≡ 0 → ⊥)
            → along c h used (r ∷ rs) ≡ left c used (wanted.Nothing (Faulty (reason_at c (at_hand c h r) r) (c.row + 1)))
        unfolding along pick
        faulty e = simp (lt-leb _ _ l, le-ltb _ _ n, ne_eqb _ _ e)

        pub goes_on_lem : reason_at c (at_hand c h r) r ≡ 0 → along c h used (r ∷ rs) ≡ along (behind_row c r) h (used + 17) rs
        unfolding along pick
        goes_on_lem e = simp (lt-leb _ _ l, le-ltb _ _ n, eq-eqb _ _ e)

pub looks_not : (c : Check) (w : List ℕ) (h : Handed) → not c.formed ≡ true → left c 0 (wanted.Nothing ill_formed) ≡ looked c w h
unfolding looked pick
looks_not c w h e = simp (not-true c.formed e)

looks : (c : Check) (w : List ℕ) (h : Handed) → not c.formed ≡ false → looked c w h ≡ along c h 0 (rows_at w 0)
unfolding looked pick
looks c w h e = simp (not-false c.formed e, sub-zero)

-- the octets from index i on, as a call lends them
pub lent-from : (w : List ℕ) (i : ℕ) → take (length w - i) (drop i w) ≡ drop i w
lent-from w i = take_all (length w - i) (drop i w) (simp length-drop (omega arith))

-- A loop over the rows: it started at s, and stands at c before index i.
abbrev pub Stands : Check → List ℕ → Handed → Check → ℕ → Type 0
Stands s w h c i = along s h 0 (rows_at w 0) ≡ along c h i (rows_at w i)

module _ (s : Check) (w : List ℕ) (h : Handed) (formed : not s.formed ≡ false) (c : Check) (i : ℕ) (inv : Stands s w h c i) where
  as_looked : {l : Looked} → along c h i (rows_at w i) ≡ l → l ≡ looked s w h
  as_looked e = sym (looks s w h formed ∙ inv ∙ e)

  pub passes : c.rows ≤ c.row → left c i (wanted.Nothing Passes) ≡ looked s w h
  passes l = as_looked (all-looked c h i (rows_at w i) l)

  module _ (l : c.row < c.rows) where
    pub starved : length w - i < 17 → left c i wanted.Rows ≡ looked s w h
    starved n = as_looked (rw (rows_none w i n) (none-at-hand c h i l))

    module _ (m : 17 ≤ length w - i) {n : ℕ} (e : n ≡ (row_in (take (length w - i) (drop i w))).packet) where
      about : n ≡ (row_in (drop i w)).packet
      about = rw (lent-from w i) at e

      pub passes_on : c.number < n → left (behind_packet c) i wanted.Packet ≡ looked s w h
      passes_on o = as_looked (rw (rows_next w i m) (later c h i l (row_in (drop i w)) (rows_at w (i + 17)) (rw about at o)))

      module _ (o : n ≤ c.number) {k : ℕ}
          (r : k ≡ reason_at c (at_hand c h (row_in (take (length w - i) (drop i w)))) (row_in (take (length w - i) (drop i w)))) where
        against : k ≡ reason_at c (at_hand c h (row_in (drop i w))) (row_in (drop i w))
        against = rw (lent-from w i) at r

        pub stops : (k ≡ 0 → ⊥) → left c i (wanted.Nothing (Faulty k (c.row + 1))) ≡ looked s w h
        stops z =
            as_looked
            (rw (rows_next w i m) (rw against (faulty c h i l (row_in (drop i w)) (rows_at w (i + 17)) (rw about at o) (rw against at z))))

        pub again : k ≡ 0 → Stands s w h (record {
          formed = c.formed;
          head = c.head;
          columns = c.columns;
          rows = c.rows;
          row = c.row + 1;
          least = n;
          number = c.number;
        }) (i + 17)
        again z =
            inv ∙ rw (rows_next w i m) (rw about (goes_on_lem c h i l (row_in (drop i w)) (rows_at w (i + 17)) (rw about at o) (sym against ∙ z)))

-- At the end.
module _ (c : Check) (w : List ℕ) where
  pub ends_not : not c.formed ≡ true → ill_formed ≡ ended c w
  unfolding ended pick
  ends_not e = simp (not-true c.formed e)

  module _ (e : not c.formed ≡ false) where
    pub ends-all : c.rows ≤ c.row → Passes ≡ ended c w
    unfolding ended pick
    ends-all l = simp (not-false c.formed e, le-leb _ _ l)

    module _ (l : c.row < c.rows) where
      pub ends-short : length w < 17 → ill_formed ≡ ended c w
      unfolding ended pick
      ends-short s = simp (not-false c.formed e, lt-leb _ _ l, lt-ltb _ _ s)

      module _ (s : 17 ≤ length w) where
        pub ends_by : {k : ℕ} → k ≡ reason_at c none (row_in w) → Faulty k (c.row + 1) ≡ ended c w
        unfolding ended pick
        ends_by q = simp (not-false c.formed e, lt-leb _ _ l, le-ltb _ _ s, q)

        module _ {n : ℕ} (d : n ≡ (row_in w).packet) where
          pub ends-order : n < c.least → Faulty 71 (c.row + 1) ≡ ended c w
          ends-order o = ends_by (out_of_order c none (row_in w) d o)

          pub ends-none : c.least ≤ n → Faulty 72 (c.row + 1) ≡ ended c w
          ends-none o = ends_by (in_order c none (row_in w) d o (no_packet_lem _ _))
