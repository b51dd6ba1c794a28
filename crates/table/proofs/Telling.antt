-- The calls tell the verdict, however a table and its packets come.
use Prim.Native.Nat.{ℕ, zero, suc, ◌+◌, ◌-◌, ◌*◌, ◌/◌, ◌≤◌, ◌<◌}
use native.Mathlib.Decide.{dec_lt}
use native.Mathlib.Numerals.{add-one}
use native.Mathlib.Omega.{arith}
use mathlib.Core.Path.{◌≡◌, refl, sym, ap, ◌∙◌, subst}
use mathlib.Core.Bool.{Bool, true, false, not}
use mathlib.Core.Logic.{◌⊎◌, ⊎_elim}
use mathlib.Core.List.{List, [], ◌∷◌, ◌++◌, append-nil, append_assoc}
use mathlib.Core.Option.{Option, none, some}
use native.Mathlib.Nat.{zero-add, suc-add, sub-zero}
use lib.ListN.{length, take, drop, get_elem?, length-append, length-drop, get_or-append}
use lib.Seq.{drop-append-le, take-append-le, drop-drop}
use lib.Dec.{ltb}
use borrow.Author.Tests.{le-ltb, eq-eqb, ne_eqb, ltb-false}
use Rattle.octets.specs.Numbers.{at}
use Rattle.octets.specs.Parts.{part}
use Rattle.octets.specs.Pick.{pick}
use Rattle.octets.proofs.Choices.{picked, passed}
use Rattle.octets.proofs.Placing.{part-some}
use Rattle.rules.specs.Channel.{Handed}
use Rattle.table.specs.Table.{Column, Row, row_in, rows_in, numbered, against, fault, first_fault}
use Rattle.table.specs.Form.{columns_held}
use Rattle.table.specs.Look.{at_hand, reason_at, behind_row, behind_packet, left, along, handed, looked, ended}
use Rattle.table.specs.Calls.{Window, Tells, says, goes, waits, ends}
use Rattle.table.specs.declared.Verdict.{Verdict}
use Rattle.table.specs.declared.Verdict.TheVariants.{Passes, Faulty}
use Rattle.table.specs.declared.Check.{Check}
use Rattle.table.specs.declared.Looked.{Looked}
use Rattle.table.specs.declared.Wanted.{Wanted}
use Rattle.table.specs.declared.Wanted.TheVariants as wanted
use Rattle.table.proofs.Reasons.{no_packet_lem}
use Rattle.table.proofs.Looking.{all-looked, none-at-hand, later, faulty, goes_on_lem, ends-all, ends_by}

-- the packet behind so many, and that there is none behind the last
there : (done : List Handed) (h : Handed) (hs : List Handed) → get_elem? (done ++ h ∷ hs) (length done) ≡ some h
there [] h hs = refl
there (x ∷ done) h hs = there done h hs

beyond : (packets : List Handed) (n : ℕ) → length packets < n → numbered packets n ≡ none
beyond packets zero l = refl
beyond [] (suc n) l = refl
beyond (p ∷ packets) (suc zero) l = absurd (omega arith)
beyond (p ∷ packets) (suc (suc n)) l = beyond packets (suc n) (omega arith)

-- the frame with the first octet plays no part
same-against : (r : Row) (y : Option Column) (h : Handed) → against r y (some (handed h.packet h.arrival)) ≡ against r y (some h)
unfolding against
same-against r none h = refl
same-against r (some c) h = refl

pick_same : {A : Type 0} (b : Bool) (x : A) {y z : A} → (b ≡ false → y ≡ z) → pick b x y ≡ pick b x z
unfolding pick
pick_same true x e = refl
pick_same false x e = e refl

-- without a packet a row is faulty
bare : (c : Check) (r : Row) → reason_at c none r ≡ pick (ltb r.packet c.least) 71 72
unfolding reason_at
bare c r = ap (pick (ltb r.packet c.least) 71) (sym (no_packet_lem r (get_elem? (columns_held c) r.column)))

not_zero : (b : Bool) → ◌≡◌ {A = ℕ} (pick b 71 72) 0 → ⊥
unfolding pick
not_zero true e = omega (arith, e)
not_zero false e = omega (arith, e)

-- Where a check stands among all packets: those before the one at hand are done, and rs are the rows that are left.
pub record Fits (cs : List Column) (all : List Handed) (c : Check) (done hs : List Handed) (rs : List Row) : Type 0 where
  pub columns : columns_held c ≡ cs
  pub formed : c.formed ≡ true
  pub rows : c.rows ≡ c.row + length rs
  pub small : c.least ≤ c.number
  pub past : (n : ℕ) → c.least ≤ n → n < c.number → n ≡ 0
  pub place : all ≡ done ++ hs
  pub number : c.number ≡ suc (length done)

module _ (cs : List Column) (all : List Handed) where
  -- the verdict that is still to come
  abbrev pub still : Check → List Row → Verdict
  still c rs = first_fault cs all c.row c.least rs

  goes-right : (n before : ℕ) (r : Row) (rs : List Row) → fault cs all before r ≡ 0
      → first_fault cs all n before (r ∷ rs) ≡ first_fault cs all (suc n) r.packet rs
  unfolding first_fault pick
  goes-right n before r rs e = simp e

  stops_at : (n before : ℕ) (r : Row) (rs : List Row) → (fault cs all before r ≡ 0 → ⊥)
      → first_fault cs all n before (r ∷ rs) ≡ Faulty (fault cs all before r) (suc n)
  unfolding first_fault pick
  stops_at n before r rs e = simp (ne_eqb _ _ e)

  -- rows in order have the same fault, whatever came before
  same-fault : (m n : ℕ) (r : Row) → m ≤ r.packet → n ≤ r.packet → fault cs all m r ≡ fault cs all n r
  unfolding fault pick
  same-fault m n r k l = simp (le-ltb _ _ k, le-ltb _ _ l)

  same_still : (i m n : ℕ) (r : Row) (rs : List Row) → m ≤ r.packet → n ≤ r.packet
      → first_fault cs all i m (r ∷ rs) ≡ first_fault cs all i n (r ∷ rs)
  unfolding first_fault
  same_still i m n r rs k l = simp (same-fault m n r k l)

  module _ (c : Check) (done : List Handed) (h : Handed) (hs : List Handed) (r : Row) (rs : List Row)
      (f : Fits cs all c done (h ∷ hs) (r ∷ rs)) where
    this : Handed
    this = handed h.packet h.arrival

    at-hand : (y : Option Column) → c.least ≤ r.packet → r.packet ≤ c.number → Dec (r.packet < c.number)
        → against r y (at_hand c (handed h.packet h.arrival) r) ≡ against r y (numbered all r.packet)
    at-hand y o l (yes m) =
        let other : none ≡ at_hand c (handed h.packet h.arrival) r = passed _ _ _ _
        (ne_eqb r.packet c.number (λ e. omega (arith, e))) refl in
        ap (against r y) (sym other ∙ ap (numbered all) (sym (f.past r.packet o m)))
    at-hand y o l (no m) =
        let e : r.packet ≡ c.number = omega (arith, m) in
        let this : some (handed h.packet h.arrival) ≡ at_hand c (handed h.packet h.arrival) r = picked _ _ _ (eq-eqb _ _ e) in
        let found : numbered all r.packet ≡ some h = rw (f.place, e ∙ f.number) (there done h hs) in
        ap (against r y) (sym this) ∙ same-against r y h ∙ ap (against r y) (sym found)

    same_reason : r.packet ≤ c.number → reason_at c (at_hand c (handed h.packet h.arrival) r) r ≡ fault cs all c.least r
    unfolding reason_at fault
    same_reason l =
        rw f.columns
        (pick_same (ltb r.packet c.least) 71 (λ o. at-hand (get_elem? cs r.column) (ltb-false _ _ o) l (dec_lt _ _)))

    -- a row that is right is about the packet at hand
    its_own : r.packet ≤ c.number → reason_at c (at_hand c (handed h.packet h.arrival) r) r ≡ 0 → r.packet ≡ c.number
    its_own l e = by (dec_lt _ _)
      where
        by : Dec (r.packet < c.number) → r.packet ≡ c.number
        by (no m) = omega (arith, m)
        by (yes m) =
            let other : none ≡ at_hand c (handed h.packet h.arrival) r =
            passed _ _ _ _ (ne_eqb r.packet c.number (λ d. omega (arith, d))) refl in
            absurd (not_zero (ltb r.packet c.least) (sym (bare c r) ∙ ap (λ (x : Option Handed). reason_at c x r) other ∙ e))

    right-on : r.packet ≤ c.number → reason_at c (at_hand c (handed h.packet h.arrival) r) r ≡ 0
        → still c (r ∷ rs) ≡ still (behind_row c r) rs
    right-on l e =
        goes-right c.row c.least r rs (sym (same_reason l) ∙ e)
        ∙ ap (λ (n : ℕ). first_fault cs all n r.packet rs) (sym (add-one c.row))

    fits_on : r.packet ≤ c.number → reason_at c (at_hand c (handed h.packet h.arrival) r) r ≡ 0
        → Fits cs all (behind_row c r) done (h ∷ hs) rs
    fits_on l e =
        let own = its_own l e in
        record {
          columns = f.columns;
          formed = f.formed;
          rows = omega (arith, f.rows);
          small = omega (arith, own);
          past = λ n a b. absurd (omega (arith, own));
          place = f.place;
          number = f.number;
        }

    stops-here : r.packet ≤ c.number → (reason_at c (at_hand c (handed h.packet h.arrival) r) r ≡ 0 → ⊥)
        → Faulty (reason_at c (at_hand c (handed h.packet h.arrival) r) r) (c.row + 1) ≡ still c (r ∷ rs)
    stops-here l e =
        let s = same_reason l in
        rw (s, add-one c.row) (sym (stops_at c.row c.least r rs (λ z. e (s ∙ z))))

    later-on : c.number < r.packet → still c (r ∷ rs) ≡ still (behind_packet c) (r ∷ rs)
    later-on l = same_still c.row c.least (c.number + 1) r rs (omega (arith, f.small)) (omega arith)

    fits-later : Fits cs all (behind_packet c) (done ++ h ∷ []) hs (r ∷ rs)
    fits-later =
        record {
          columns = f.columns;
          formed = f.formed;
          rows = f.rows;
          small = omega arith;
          past = λ n a b. absurd (omega arith);
          place = f.place ∙ sym (append_assoc done (h ∷ []) hs);
          number = omega (arith, f.number, length-append done (h ∷ []));
        }

-- A look from c, with the rows R left, moved on to l.
pub record Moved (cs : List Column) (all : List Handed) (c : Check) (rows : List Row) (used : ℕ) (l : Looked)
    (done hs : List Handed) : Type 0 where
  pub past : ℕ
  pub octets : l.used ≡ used + 17 * past
  pub verdict : still cs all c rows ≡ still cs all l.check (drop past rows)
  pub fits : Fits cs all l.check done hs (drop past rows)

-- What is known by what it wants; rs were not at hand.
abbrev pub After : List Column → List Handed → Check → List Row → ℕ → Looked → List Handed → Handed → List Handed → List Row → Wanted
    → Type 0
After cs all c rows used l done h hs rs (wanted.Nothing v) = v ≡ still cs all c rows
After cs all c rows used l done h hs rs wanted.Packet = Moved cs all c rows used l (done ++ h ∷ []) hs
After cs all c rows used l done h hs rs wanted.Rows =
    Moved cs all c rows used l done (h ∷ hs) × (l.check.row < l.check.rows) × (l.check.rows ≡ l.check.row + length rs)

module _ (cs : List Column) (all : List Handed) (done : List Handed) (h : Handed) (hs : List Handed) where
  stay : (c : Check) (rows : List Row) (used : ℕ) (w : Wanted) → Fits cs all c done (h ∷ hs) rows → Moved cs all c rows used
      (left c used w) done (h ∷ hs)
  stay c rows used w f = record { past = 0; octets = omega arith; verdict = refl; fits = f }

  -- one row more
  more : (c : Check) (r : Row) (rows : List Row) (used : ℕ) (l : Looked) (ds gs : List Handed) → still cs all c (r ∷ rows) ≡ still cs all
      (behind_row c r) rows
      → Moved cs all (behind_row c r) rows (used + 17) l ds gs → Moved cs all c (r ∷ rows) used l ds gs
  more c r rows used l ds gs e m =
      record { past = suc m.past; octets = omega (arith, m.octets); verdict = e ∙ m.verdict; fits = m.fits }

  further : (c : Check) (r : Row) (rows : List Row) (used : ℕ) (l : Looked) (rs : List Row) (w : Wanted)
      → still cs all c (r ∷ rows) ≡ still cs all (behind_row c r) rows
      → After cs all (behind_row c r) rows (used + 17) l done h hs rs w → After cs all c (r ∷ rows) used l done h hs rs w
  further c r rows used l rs (wanted.Nothing v) e a = a ∙ sym e
  further c r rows used l rs wanted.Packet e a = more c r rows used l (done ++ h ∷ []) hs e a
  further c r rows used l rs wanted.Rows e a = (more c r rows used l done (h ∷ hs) e a.0, a.1, a.2)

  none_left : (c : Check) (rows : List Row) → Fits cs all c done (h ∷ hs) rows → c.rows ≤ c.row → Passes ≡ still cs all c rows
  unfolding first_fault
  none_left c [] f l = refl
  none_left c (r ∷ rs) f l = absurd (omega (arith, f.rows))

  abbrev on : Check → ℕ → List Row → Looked
  on c used rs = along c (handed h.packet h.arrival) used rs

  -- with these rows at hand, and those behind them
  abbrev Behind : Check → ℕ → List Row → List Row → Type 0
  Behind c used rs behind = After cs all c (rs ++ behind) used (on c used rs) done h hs behind (on c used rs).wanted

  abbrev reason : Check → Row → ℕ
  reason c r = reason_at c (at_hand c (handed h.packet h.arrival) r) r

  after : (rs behind : List Row) (c : Check) (used : ℕ) → Fits cs all c done (h ∷ hs) (rs ++ behind) → Behind c used rs behind
  after [] behind c used f = by (dec_lt _ _)
    where
      by : Dec (c.row < c.rows) → Behind c used [] behind
      by (yes m) = rw (none-at-hand c (handed h.packet h.arrival) used m) (stay c behind used wanted.Rows f, m, f.rows)
      by (no m) = rw (all-looked c (handed h.packet h.arrival) used [] (omega (arith, m))) (none_left c behind f (omega (arith, m)))
  after (r ∷ rs) behind c used f =
      by (dec_lt _ _) (dec_lt _ _) (λ o z. after rs behind (behind_row c r) (used + 17) (fits_on cs all c done h hs r (rs ++ behind) f o z))
    where
      some_left : c.row < c.rows
      some_left = omega (arith, f.rows)

      by : Dec (c.number < r.packet) → Dec (0 < reason c r)
          → (r.packet ≤ c.number → reason c r ≡ 0 → Behind (behind_row c r) (used + 17) rs behind) → Behind c used (r ∷ rs) behind
      by (yes m) n next =
          rw (later c (handed h.packet h.arrival) used some_left r rs m)
          (record {
            past = 0;
            octets = omega arith;
            verdict = later-on cs all c done h hs r (rs ++ behind) f m;
            fits = fits-later cs all c done h hs r (rs ++ behind) f;
          })
      by (no m) (yes n) next =
          let o : r.packet ≤ c.number = omega (arith, m) in
          rw (faulty c (handed h.packet h.arrival) used some_left r rs o (λ e. omega (arith, e, n)))
          (stops-here cs all c done h hs r (rs ++ behind) f o (λ e. omega (arith, e, n)))
      by (no m) (no n) next =
          let o : r.packet ≤ c.number = omega (arith, m) in
          let z : reason c r ≡ 0 = omega (arith, n) in
          rw (goes_on_lem c (handed h.packet h.arrival) used some_left r rs o z)
          (further c r (rs ++ behind) used (on (behind_row c r) (used + 17) rs) behind (on (behind_row c r) (used + 17) rs).wanted
          (right-on cs all c done h hs r (rs ++ behind) f o z) (next o z))

-- Rows in octets that are cut.
row-front : (s t : List ℕ) → 17 ≤ length s → row_in (s ++ t) ≡ row_in s
row-front s t l =
    let same : (i : ℕ) → i < 17 → at (s ++ t) i ≡ at s i = λ i h. get_or-append s t 0 i (omega arith) in
    let value : part (s ++ t) 9 8 ≡ part s 9 8 =
    sym (part-some (s ++ t) 9 8 (omega (arith, length-append s t)))
    ∙ ap (take 8) (drop-append-le 9 s t (omega arith))
    ∙ take-append-le 8 (drop 9 s) t (simp length-drop (omega arith)) ∙ part-some s 9 8 l in
    simp (
      same 0 (omega arith),
      same 1 (omega arith),
      same 2 (omega arith),
      same 3 (omega arith),
      same 4 (omega arith),
      same 5 (omega arith),
      same 6 (omega arith),
      same 7 (omega arith),
      same 8 (omega arith),
      value,
    )

rows-front : (m : ℕ) (s t : List ℕ) → 17 * m ≤ length s → rows_in m (s ++ t) ≡ rows_in m s
rows-front zero s t l = refl
rows-front (suc m) s t l =
    let tail : rows_in m (drop 17 (s ++ t)) ≡ rows_in m (drop 17 s) =
    ap (rows_in m) (drop-append-le 17 s t (omega arith)) ∙ rows-front m (drop 17 s) t (simp length-drop (omega arith)) in
    ap (λ (x : Row). x ∷ rows_in m (drop 17 (s ++ t))) (row-front s t (omega arith)) ∙ ap (λ (x : List Row). row_in s ∷ x) tail

behind-first : (m : ℕ) (s : List ℕ) → drop (17 * m) (drop 17 s) ≡ drop (17 * suc m) s
behind-first m s =
    let e : 17 + 17 * m ≡ 17 * suc m = omega arith in
    drop-drop (17 * m) 17 s ∙ ap (λ (k : ℕ). drop k s) e

rows_cut : (m n : ℕ) (s : List ℕ) → rows_in (m + n) s ≡ rows_in m s ++ rows_in n (drop (17 * m) s)
rows_cut zero n s = ap (λ (k : ℕ). rows_in k s) (zero-add n)
rows_cut (suc m) n s =
    ap (λ (k : ℕ). rows_in k s) (suc-add m n)
    ∙ ap (λ (x : List Row). row_in s ∷ x) (rows_cut m n (drop 17 s) ∙ ap (λ (x : List ℕ). rows_in m (drop 17 s) ++ rows_in n x)
    (behind-first m s))

rows_drop : (m n : ℕ) (s : List ℕ) → drop m (rows_in n s) ≡ rows_in (n - m) (drop (17 * m) s)
rows_drop zero n s = ap (λ (k : ℕ). rows_in k s) (sym (sub-zero n))
rows_drop (suc m) zero s =
    let e : 0 - suc m ≡ 0 = omega arith in
    rw e
rows_drop (suc m) (suc n) s =
    let e : suc n - suc m ≡ n - m = omega arith in
    rw e (rows_drop m n (drop 17 s) ∙ ap (rows_in (n - m)) (behind-first m s))

pub length-rows : (n : ℕ) (s : List ℕ) → length (rows_in n s) ≡ n
length-rows zero s = refl
length-rows (suc n) s = ap suc (length-rows n (drop 17 s))

window-rows : (n : ℕ) (rest : List ℕ) (w : Window rest) → 17 * n ≡ length rest
    → rows_in n rest ≡ rows_in (length w.octets / 17) w.octets ++ rows_in (n - length w.octets / 17)
    (drop (17 * (length w.octets / 17)) rest)
window-rows n rest w l =
    let m = length w.octets / 17 in
    let all : length rest ≡ length w.octets + length w.behind = ap length w.cut ∙ length-append w.octets w.behind in
    let fewer : length w.octets / 17 + (n - length w.octets / 17) ≡ n = omega (arith, all, l) in
    let front : rows_in (length w.octets / 17) rest ≡ rows_in (length w.octets / 17) w.octets =
    ap (rows_in (length w.octets / 17)) w.cut ∙ rows-front (length w.octets / 17) w.octets w.behind (omega arith) in
    ap (λ (k : ℕ). rows_in k rest) (sym fewer)
    ∙ rows_cut (length w.octets / 17) (n - length w.octets / 17) rest
    ∙ ap (λ (x : List Row). x ++ rows_in (n - length w.octets / 17) (drop (17 * (length w.octets / 17)) rest)) front

pub formed-looks : (c : Check) (w : List ℕ) (h : Handed) → c.formed ≡ true → along c h 0 (rows_in (length w / 17) w) ≡ looked c w h
unfolding looked
formed-looks c w h e = picked _ _ _ e

-- the rows that are not at hand
abbrev pub unseen : ℕ → (rest : List ℕ) → Window rest → List Row
unseen n rest w = rows_in (n - length w.octets / 17) (drop (17 * (length w.octets / 17)) rest)

module _ (cs : List Column) (all : List Handed) where
  -- a call of look, with n rows left
  pub look_after : (c : Check) (rest : List ℕ) (n : ℕ) → 17 * n ≡ length rest → (done : List Handed) (h : Handed) (hs : List Handed)
      (w : Window rest) (l : Looked)
      → Fits cs all c done (h ∷ hs) (rows_in n rest) → l ≡ looked c w.octets (handed h.packet h.arrival)
      → After cs all c (rows_in n rest) 0 l done h hs (unseen n rest w) l.wanted
  look_after c rest n len done h hs w l f e =
      let split = window-rows n rest w len in
      let rs = rows_in (length w.octets / 17) w.octets in
      let by = formed-looks c w.octets (handed h.packet h.arrival) f.formed in
      subst (λ (x : Looked). After cs all c (rows_in n rest) 0 x done h hs (unseen n rest w) x.wanted) (by ∙ sym e)
      (subst (λ (rows : List Row). After cs all c rows 0 (on cs all done h hs c 0 rs) done h hs (unseen n rest w)
      (on cs all done h hs c 0 rs).wanted) (sym split)
      (after cs all done h hs rs (unseen n rest w) c 0 (subst (λ (rows : List Row). Fits cs all c done (h ∷ hs) rows) split f)))

  -- after it moved on, the octets that it used are dropped
  module _ (c : Check) (rest : List ℕ) (n : ℕ) (len : 17 * n ≡ length rest) (l : Looked) (done hs : List Handed)
      (m : Moved cs all c (rows_in n rest) 0 l done hs) where
    pub left-rows : drop m.past (rows_in n rest) ≡ rows_in (n - m.past) (drop l.used rest)
    left-rows =
        let u : l.used ≡ 17 * m.past = omega (arith, m.octets) in
        rows_drop m.past n rest ∙ ap (λ (k : ℕ). rows_in (n - m.past) (drop k rest)) (sym u)

    pub left-octets : 17 * (n - m.past) ≡ length (drop l.used rest)
    left-octets = simp length-drop (omega (arith, m.octets, len))

    pub left-fits : Fits cs all l.check done hs (rows_in (n - m.past) (drop l.used rest))
    left-fits = subst (λ (rows : List Row). Fits cs all l.check done hs rows) left-rows m.fits

    pub left_still : still cs all c (rows_in n rest) ≡ still cs all l.check (rows_in (n - m.past) (drop l.used rest))
    left_still = m.verdict ∙ ap (still cs all l.check) left-rows

  -- at the end no packet is left
  no_more : (c : Check) (done : List Handed) (rs : List Row) → Fits cs all c done [] rs → (r : Row) → c.least ≤ r.packet → Dec
      (r.packet < c.number)
      → none ≡ numbered all r.packet
  no_more c done rs f r o (yes m) = ap (numbered all) (sym (f.past r.packet o m))
  no_more c done rs f r o (no m) =
      let size : length all ≡ length done = ap length (f.place ∙ append-nil done) in
      sym (beyond all r.packet (omega (arith, m, size, f.number)))

  same_end : (c : Check) (done : List Handed) (rs : List Row) → Fits cs all c done [] rs → (r : Row) → reason_at c none r ≡ fault cs all
      c.least r
  unfolding reason_at fault
  same_end c done rs f r =
      rw f.columns
      (pick_same (ltb r.packet c.least) 71
      (λ o. ap (against r (get_elem? cs r.column)) (no_more c done rs f r (ltb-false _ _ o) (dec_lt _ _))))

  end-tells : (c : Check) (rest : List ℕ) (n : ℕ) → 17 * n ≡ length rest → (done : List Handed) (w : Window rest)
      → (17 ≤ length w.octets) ⊎ (w.behind ≡ []) → Fits cs all c done [] (rows_in n rest) → ended c w.octets ≡ still cs all c
      (rows_in n rest)
  unfolding first_fault
  end-tells c rest zero len done w z f = sym (ends-all c w.octets (ap not f.formed) (omega (arith, f.rows)))
  end-tells c rest (suc n) len done w z f =
      let size : length rest ≡ length w.octets + length w.behind = ap length w.cut ∙ length-append w.octets w.behind in
      let whole : 17 ≤ length w.octets = ⊎_elim (λ l. l) (λ e. omega (arith, size, ap length e, len)) z in
      let first : row_in rest ≡ row_in w.octets = ap row_in w.cut ∙ row-front w.octets w.behind whole in
      let same = same_end c done (rows_in (suc n) rest) f (row_in rest) in
      let wrong : fault cs all c.least (row_in rest) ≡ 0 → ⊥ =
      λ d. not_zero (ltb (row_in rest).packet c.least) (sym (bare c (row_in rest)) ∙ same ∙ d) in
      sym (ends_by c w.octets (ap not f.formed) (omega (arith, f.rows)) whole
      (sym same ∙ ap (reason_at c none) first))
      ∙ rw (add-one c.row) (sym (stops_at cs all c.row c.least (row_in rest) (rows_in n (drop 17 rest)) wrong))

  pub tells : {c : Check} {rest : List ℕ} {packets : List Handed} {v : Verdict} → Tells c rest packets v → (done : List Handed) (n : ℕ)
      → 17 * n ≡ length rest
      → Fits cs all c done packets (rows_in n rest) → v ≡ still cs all c (rows_in n rest)
  tells {c} {rest} (says {h = h} {hs = hs} w l e x) done n len f =
      subst (After cs all c (rows_in n rest) 0 l done h hs (unseen n rest w)) x (look_after c rest n len done h hs w l f e)
  tells {c} {rest} (goes {h = h} {hs = hs} w l e x t) done n len f =
      let m : Moved cs all c (rows_in n rest) 0 l (done ++ h ∷ []) hs =
      subst (After cs all c (rows_in n rest) 0 l done h hs (unseen n rest w)) x (look_after c rest n len done h hs w l f e) in
      tells t (done ++ h ∷ []) (n - m.past) (left-octets c rest n len l (done ++ h ∷ []) hs m)
      (left-fits c rest n len l (done ++ h ∷ []) hs m)
      ∙ sym (left_still c rest n len l (done ++ h ∷ []) hs m)
  tells {c} {rest} (waits {h = h} {hs = hs} w l e x t) done n len f =
      let a = subst (After cs all c (rows_in n rest) 0 l done h hs (unseen n rest w)) x (look_after c rest n len done h hs w l f e) in
      let m : Moved cs all c (rows_in n rest) 0 l done (h ∷ hs) = a.0 in
      tells t done (n - m.past) (left-octets c rest n len l done (h ∷ hs) m) (left-fits c rest n len l done (h ∷ hs) m)
      ∙ sym (left_still c rest n len l done (h ∷ hs) m)
  tells {c} {rest} (ends w z e) done n len f = e ∙ end-tells c rest n len done w z f
