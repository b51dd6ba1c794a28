-- The verdict in facts: a row has no fault exactly if it is right.
use Prim.Native.Nat.{ℕ, zero, suc, ◌+◌, ◌-◌, ◌≤◌}
use native.Mathlib.Omega.{arith}
use mathlib.Core.Path.{◌≡◌, refl, sym, ap, ◌∙◌, subst}
use mathlib.Core.Bool.{Bool, true, false, ◌||◌, true≢false}
use mathlib.Core.List.{List, [], ◌∷◌, ◌++◌}
use mathlib.Core.Option.{Option, none, some}
use lib.ListN.{length, replicate, get_elem?}
use lib.Dec.{eqb, ltb, leb}
use borrow.Author.Tests.{le-ltb, le-leb, eq-eqb, ne_eqb, ltb-false, leb-true, eqb-true, eqb-false, not-false}
use Rattle.octets.specs.Parts.{part}
use Rattle.octets.specs.Pick.{pick}
use Rattle.octets.specs.Same.{same}
use Rattle.octets.proofs.Choices.{not_picked}
use Rattle.octets.proofs.Comparing.{same_is_equal}
use Rattle.octets.proofs.Tests.{or_left, or_right, and_true_left, and_true_right}
use Rattle.rules.specs.Channel.{Handed}
use Rattle.table.specs.Table.{Column, Row, column_count, columns_of, rows_of, widths_wrong, badly_formed, numbered}
use Rattle.table.specs.Table.{stands, against, fault, first_fault, verdict}
use Rattle.table.specs.Statements.{Stands, Right, AllRight, WidthsRight, WellFormed, PassesExactly, Exactly, last_of, First, whole}
use Rattle.table.specs.Statements.{row, FaultsFirst}
use Rattle.table.specs.declared.Verdict.TheVariants.{Passes, Faulty}
use Rattle.table.proofs.Forming.{few-columns}
use Rattle.table.proofs.Verdicts.{sized}

module _ (c : Column) (packet value : List ℕ) where
  stands_so : Stands c packet value → stands c packet value ≡ true
  unfolding stands
  stands_so s =
      simp (le-leb _ _ s.inside, (same_is_equal value (replicate (8 - c.width) 0 ++ part packet c.offset c.width)).1 s.same)

  so_stands : stands c packet value ≡ true → Stands c packet value
  unfolding stands
  so_stands h =
      record {
        inside = leb-true _ _ (and_true_left _ _ h);
        same = (same_is_equal value (replicate (8 - c.width) 0 ++ part packet c.offset c.width)).0
            (and_true_right (leb (c.offset + c.width) (length packet)) _ h);
      }

module _ (columns : List Column) (packets : List Handed) where
  pub no_fault : (before : ℕ) (r : Row) → Right columns packets before r → fault columns packets before r ≡ 0
  unfolding fault against pick
  no_fault before r f =
      simp (
        le-ltb _ _ f.order,
        f.such,
        f.exists,
        f.accepted,
        stands_so f.column f.handed.packet r.value
            f.value,
        le-ltb _ _ f.claim,
      )

  is_right : (before : ℕ) (r : Row) → before ≤ r.packet → (y : Option Column) → get_elem? columns r.column ≡ y
      → (z : Option Handed) → numbered packets r.packet ≡ z → against r y z ≡ 0 → Right columns packets before r
  unfolding against
  is_right before r o none e z d h = absurd (omega (arith, h))
  is_right before r o (some c) e none d h = absurd (omega (arith, h))
  is_right before r o (some c) e (some p) d h =
      let a = not_picked _ _ _ _ h (λ x. omega (arith, x)) in
      let b = not_picked _ _ _ _ a.1 (λ x. omega (arith, x)) in
      let f = not_picked _ _ _ _ b.1 (λ x. omega (arith, x)) in
      record {
        order = o;
        column = c;
        such = e;
        handed = p;
        exists = d;
        accepted = not-false _ a.0;
        value = so_stands c p.packet r.value (not-false _ b.0);
        claim = ltb-false _ _ f.0;
      }

  pub faultless : (before : ℕ) (r : Row) → fault columns packets before r ≡ 0 → Right columns packets before r
  unfolding fault
  faultless before r h =
      let a = not_picked _ _ _ _ h (λ x. omega (arith, x)) in
      is_right before r (ltb-false _ _ a.0) (get_elem? columns r.column) refl (numbered packets r.packet) refl a.1

  all_right_lem : (n before : ℕ) (rs : List Row) → AllRight columns packets before rs → first_fault columns packets n before rs ≡ Passes
  unfolding first_fault pick
  all_right_lem n before [] a = refl
  all_right_lem n before (r ∷ rs) a = simp (no_fault before r a.0) (all_right_lem (suc n) r.packet rs a.1)

  -- the next row, where all passes and where something is faulty
  passes-next : (n before : ℕ) (r : Row) (rs : List Row) (b : Bool) → eqb (fault columns packets before r) 0 ≡ b
      → first_fault columns packets n before (r ∷ rs) ≡ Passes
      → (fault columns packets before r ≡ 0) × (first_fault columns packets (suc n) r.packet rs ≡ Passes)
  unfolding first_fault pick
  passes-next n before r rs true e h = (eqb-true _ _ e, simp e at h)
  passes-next n before r rs false e h =
      let f : Faulty (fault columns packets before r) (suc n) ≡ Passes = simp e at h in
      let z : ◌≡◌ {A = ℕ} 0 1 = cc in
      absurd (omega arith)

  right-all : (n before : ℕ) (rs : List Row) → first_fault columns packets n before rs ≡ Passes → AllRight columns packets before rs
  right-all n before [] h = tt
  right-all n before (r ∷ rs) h =
      let a = passes-next n before r rs (eqb (fault columns packets before r) 0) refl h in
      (faultless before r a.0, right-all (suc n) r.packet rs a.1)

-- A faulty row behind rows that are right; n rows were looked at before.
record Found (columns : List Column) (packets : List Handed) (n before : ℕ) (rs : List Row) (k m : ℕ) : Type 0 where
  rights : List Row
  here : Row
  behind : List Row
  cut : rs ≡ rights ++ here ∷ behind
  right : AllRight columns packets before rights
  fault-is : k ≡ fault columns packets (last_of before rights) here
  wrong : fault columns packets (last_of before rights) here ≡ 0 → ⊥
  number : m ≡ suc (n + length rights)

module _ (columns : List Column) (packets : List Handed) where
  finds_by : (n before : ℕ) (r : Row) (rs : List Row) {k m : ℕ} (b : Bool) → eqb (fault columns packets before r) 0 ≡ b
      → first_fault columns packets n before (r ∷ rs) ≡ Faulty k m
      → (first_fault columns packets (suc n) r.packet rs ≡ Faulty k m → Found columns packets (suc n) r.packet rs k m)
      → Found columns packets n before (r ∷ rs) k m
  unfolding first_fault pick
  finds_by n before r rs true e h next =
      let f = next (simp e at h) in
      record {
        rights = r ∷ f.rights;
        here = f.here;
        behind = f.behind;
        cut = ap (λ (x : List Row). r ∷ x) f.cut;
        right = (faultless columns packets before r (eqb-true _ _ e), f.right);
        fault-is = f.fault-is;
        wrong = f.wrong;
        number = omega (arith, f.number);
      }
  finds_by n before r rs {k} {m} false e h next =
      let f : Faulty (fault columns packets before r) (suc n) ≡ Faulty k m = simp e at h in
      record { rights = []; here = r; behind = rs; cut = refl; right = tt; fault-is = (cc); wrong = eqb-false _ _ e; number = (cc one) }
    where
      one : suc n ≡ suc (n + 0)
      one = omega arith

  finds : (n before : ℕ) (rs : List Row) {k m : ℕ} → first_fault columns packets n before rs ≡ Faulty k m
      → Found columns packets n before rs k m
  unfolding first_fault
  finds n before [] h = let z : ◌≡◌ {A = ℕ} 0 1 = cc in absurd (omega arith)
  finds n before (r ∷ rs) h = finds_by n before r rs (eqb (fault columns packets before r) 0) refl h (λ g. finds (suc n) r.packet rs g)

-- The form.
widths-right : (cs : List Column) → widths_wrong cs ≡ false → WidthsRight cs
unfolding widths_wrong
widths-right [] h = tt
widths-right (c ∷ cs) h =
    let w = or_left (eqb c.width 0 || ltb 8 c.width) (widths_wrong cs) h in
    let some : c.width ≡ 0 → ⊥ = eqb-false _ _ (or_left (eqb c.width 0) (ltb 8 c.width) w) in (
      some-width c.width some,
      ltb-false _ _ (or_right (eqb c.width 0) (ltb 8 c.width) w),
      widths-right cs
          (or_right (eqb c.width 0 || ltb 8 c.width) (widths_wrong cs) h),
    )
  where
    some-width : (n : ℕ) → (n ≡ 0 → ⊥) → 1 ≤ n
    some-width zero h = absurd (h refl)
    some-width (suc n) h = omega arith

right-widths : (cs : List Column) → WidthsRight cs → widths_wrong cs ≡ false
unfolding widths_wrong
right-widths [] w = refl
right-widths (c ∷ cs) w =
    simp (ne_eqb c.width 0 (λ e. omega (arith, e, w.0)), le-ltb _ _ w.1) (right-widths cs w.2)

well_formed_lem : (t : List ℕ) → badly_formed t (length t) ≡ false → WellFormed t
unfolding badly_formed
well_formed_lem t h =
    record {
      columns = few-columns t (length t) h;
      widths = widths-right (columns_of t) (or_left (widths_wrong (columns_of t)) _ (or_right (ltb 32 (column_count t)) _ h));
      octets = sized t (length t) h;
    }

formed_well : (t : List ℕ) → WellFormed t → badly_formed t (length t) ≡ false
unfolding badly_formed
formed_well t w = simp (le-ltb _ _ w.columns, right-widths (columns_of t) w.widths, eq-eqb _ _ w.octets)

module _ (t : List ℕ) (packets : List Handed) where
  good-rows : badly_formed t (length t) ≡ false → verdict t packets ≡ first_fault (columns_of t) packets 0 0 (rows_of t)
  unfolding verdict pick
  good-rows h = simp h

  bad_file : badly_formed t (length t) ≡ true → verdict t packets ≡ Faulty 70 0
  unfolding verdict pick
  bad_file h = simp h

  passes-form : (b : Bool) → badly_formed t (length t) ≡ b → verdict t packets ≡ Passes → badly_formed t (length t) ≡ false
  passes-form true e h =
      let f = bad_file e in
      let z : ◌≡◌ {A = ℕ} 0 1 = cc in
      absurd (omega arith)
  passes-form false e h = e

  passes_exactly : PassesExactly t packets
  passes_exactly =
      record {
        formed = λ h. well_formed_lem t (passes-form (badly_formed t (length t)) refl h);
        rows = λ h. right-all (columns_of t) packets 0 0 (rows_of t) (sym (good-rows (passes-form (badly_formed t (length t)) refl h)) ∙ h);
        passes = λ w a. good-rows (formed_well t w) ∙ all_right_lem (columns_of t) packets 0 0 (rows_of t) a;
      }

  first_by : (b : Bool) → badly_formed t (length t) ≡ b → (k m : ℕ) → verdict t packets ≡ Faulty k m → First t packets k m
  first_by true e k m h =
      let f = bad_file e in
      let p : ◌≡◌ {A = ℕ} 70 k = cc in
      let q : ◌≡◌ {A = ℕ} 0 m = cc in
      subst (λ (x : ℕ). First t packets x m) p
      (subst (λ (x : ℕ). First t packets 70 x) q (whole (λ w. true≢false (sym e ∙ formed_well t w))))
  first_by false e k m h =
      let f = finds (columns_of t) packets 0 0 (rows_of t) (sym (good-rows e) ∙ h) in
      let n : suc (length f.rights) ≡ m = omega (arith, f.number) in
      subst (λ (x : ℕ). First t packets x m) (sym f.fault-is)
      (subst (λ (x : ℕ). First t packets (fault (columns_of t) packets (last_of 0 f.rights) f.here) x) n
      (row f.rights f.here f.behind (well_formed_lem t e) f.cut f.right
      (λ r. f.wrong (no_fault (columns_of t) packets (last_of 0 f.rights) f.here r))))

pub exactly : Exactly
exactly t packets = passes_exactly t packets

pub faults_first : FaultsFirst
faults_first t packets k m h = first_by t packets (badly_formed t (length t)) refl k m h
