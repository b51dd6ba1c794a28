-- For every table and every list of packets: the verdict that the calls tell, and that they tell one.
use Prim.Native.Nat.{ℕ, suc, ◌+◌, ◌-◌, ◌*◌, ◌/◌, ◌≤◌, ◌<◌}
use native.Mathlib.Omega.{arith}
use mathlib.Core.Path.{◌≡◌, refl, sym, ap, ◌∙◌, subst}
use mathlib.Core.Bool.{Bool, true, false, not}
use mathlib.Core.Logic.{inr}
use mathlib.Core.List.{List, [], ◌∷◌, ◌++◌, append-nil}
use lib.ListN.{length, drop, length-drop}
use lib.Dec.{ltb}
use borrow.Author.Tests.{eqb-true, not-false}
use Rattle.octets.specs.Numbers.{at}
use Rattle.octets.proofs.Choices.{picked, passed, picks}
use Rattle.octets.proofs.Tests.{or_right}
use Rattle.rules.specs.Channel.{Handed}
use Rattle.table.specs.Table.{Column, Row, column_count, row_count, rows_from, columns_of, rows_in, widths_wrong, badly_formed}
use Rattle.table.specs.Table.{first_fault, verdict}
use Rattle.table.specs.Form.{known, ready, refused, started}
use Rattle.table.specs.Look.{ill_formed, behind_row, handed, along, looked, ended}
use Rattle.table.specs.Calls.{Window, Tells, says, goes, waits, ends, TellsVerdict, LooksOn, EachLooksOn, AllTold}
use Rattle.table.specs.declared.Verdict.{Verdict}
use Rattle.table.specs.declared.Form.{Form}
use Rattle.table.specs.declared.Check.{Check}
use Rattle.table.specs.declared.Looked.{Looked}
use Rattle.table.specs.declared.Wanted.{Wanted}
use Rattle.table.specs.declared.Wanted.TheVariants as wanted
use Rattle.table.proofs.Forming.{few-columns, starts-refused, starts-ready}
use Rattle.table.proofs.Keeping.{head_of, same_count, same_rows, same-columns, same-form, all_read}
use Rattle.table.proofs.Looking.{looks_not, ends_not}
use Rattle.table.proofs.Telling.{Fits, After, tells, formed-looks, look_after, unseen, left-octets, left-fits, length-rows}

-- of a table that is badly formed
module _ (c : Check) (n : c.formed ≡ false) where
  only : {l : Looked} (w : List ℕ) (h : Handed) → l ≡ looked c w (handed h.packet h.arrival) → l.wanted ≡ wanted.Nothing ill_formed
  only w h e = ap (λ (x : Looked). x.wanted) (e ∙ sym (looks_not c w (handed h.packet h.arrival) (ap not n)))

  unformed : {rest : List ℕ} {packets : List Handed} {v : Verdict} → Tells c rest packets v → v ≡ ill_formed
  unformed (says {h = h} w l e x) = let o = only w.octets h e in cc
  unformed (goes {h = h} w l e x t) = let o = only w.octets h e in let z : ◌≡◌ {A = ℕ} 0 1 = cc in absurd (omega arith)
  unformed (waits {h = h} w l e x t) = let o = only w.octets h e in let z : ◌≡◌ {A = ℕ} 0 1 = cc in absurd (omega arith)
  unformed (ends w z e) = e ∙ sym (ends_not c w.octets (ap not n))

-- a file that is not refused is as long as its counts say
pub sized : (t : List ℕ) (n : ℕ) → badly_formed t n ≡ false → n ≡ 8 + 2 * column_count t + 17 * row_count t
unfolding badly_formed
sized t n h = eqb-true _ _ (not-false _ (or_right (widths_wrong (columns_of t)) _ (or_right (ltb 32 (column_count t)) _ h)))

module _ (t : List ℕ) (o : (i : ℕ) → at t i < 256) (packets : List Handed) where
  bad : badly_formed t (length t) ≡ true → ill_formed ≡ verdict t packets
  unfolding verdict
  bad h = picked _ _ _ h

  refused-start : badly_formed t (length t) ≡ true → refused (head_of t) ≡ started (known t)
  refused-start h = starts-refused (known t) (same-form t o ∙ h)

  module _ (good : badly_formed t (length t) ≡ false) where
    ready-start : ready (head_of t) ≡ started (known t)
    ready-start = starts-ready (known t) (same-form t o ∙ good)

    rows_left : 17 * row_count t ≡ length (drop (rows_from (column_count (head_of t))) t)
    rows_left = simp (length-drop, same_count t) (omega (arith, sized t (length t) good))

    start_fits : Fits (columns_of t) packets (ready (head_of t)) [] packets (rows_in (row_count t) (drop (rows_from (column_count (head_of t))) t))
    start_fits =
        let few = few-columns t (length t) good in
        record {
          columns = same-columns t o few (omega (arith, sized t (length t) good));
          formed = refl;
          rows = same_rows t o few ∙ omega (arith, length-rows (row_count t) (drop (rows_from (column_count (head_of t))) t));
          small = omega arith;
          past = λ n a b. omega arith;
          place = refl;
          number = refl;
        }

    good-verdict : first_fault (columns_of t) packets 0 0 (rows_in (row_count t) (drop (rows_from (column_count (head_of t))) t)) ≡ verdict t
        packets
    unfolding verdict
    good-verdict = rw (same_count t) (passed _ _ _ _ good refl)

  verdict_by : (b : Bool) → badly_formed t (length t) ≡ b → {v : Verdict}
      → Tells (started (known t)) (drop (rows_from (started (known t)).columns) t) packets v → v ≡ verdict t packets
  verdict_by true h s = unformed (started (known t)) (ap (λ (c : Check). c.formed) (sym (refused-start h))) s ∙ bad h
  verdict_by false h {v} s =
      tells (columns_of t) packets (subst (λ (c : Check). Tells c (drop (rows_from c.columns) t) packets v) (sym (ready-start h)) s) []
      (row_count t) (rows_left h) (start_fits h)
      ∙ good-verdict h

pub tells-verdict : TellsVerdict
tells-verdict t packets pieces forms form v o j r s =
    let whole : form ≡ known t = all_read pieces forms form r ∙ ap known j in
    verdict_by t o packets (badly_formed t (length t)) refl
    (subst (λ (f : Form). Tells (started f) (drop (rows_from (started f).columns) t) packets v) whole s)

-- There are such calls: with all that is left at hand.
record Has (c : Check) (rest : List ℕ) (packets : List Handed) : Type 0 where
  verdict : Verdict
  tells : Tells c rest packets verdict

abbrev all-at-hand : (rest : List ℕ) → Window rest
all-at-hand rest = record { octets = rest; behind = []; cut = sym (append-nil rest) }

told-bad : (c : Check) → c.formed ≡ false → (rest : List ℕ) (packets : List Handed) → Has c rest packets
told-bad c n rest [] = record { verdict = ended c rest; tells = ends (all-at-hand rest) (inr refl) refl }
told-bad c n rest (h ∷ hs) =
    record {
      verdict = ill_formed;
      tells = says (all-at-hand rest) (looked c rest (handed h.packet h.arrival)) refl (only c n rest h refl);
    }

module _ (cs : List Column) (all : List Handed) where
  told-good : (packets : List Handed) (c : Check) (rest : List ℕ) (n : ℕ) → 17 * n ≡ length rest → (done : List Handed)
      → Fits cs all c done packets (rows_in n rest) → Has c rest packets
  told-good [] c rest n len done f = record { verdict = ended c rest; tells = ends (all-at-hand rest) (inr refl) refl }
  told-good (h ∷ hs) c rest n len done f =
      by (λ d r k e g. told-good hs d r k e (done ++ h ∷ []) g) (looked c rest (handed h.packet h.arrival)).wanted refl
      (look_after cs all c rest n len done h hs (all-at-hand rest) (looked c rest (handed h.packet h.arrival)) f refl)
    where
      l : Looked
      l = looked c rest (handed h.packet h.arrival)

      by : ((d : Check) (r : List ℕ) (k : ℕ) → 17 * k ≡ length r → Fits cs all d (done ++ h ∷ []) hs (rows_in k r) → Has d r hs)
          → (w : Wanted) → (looked c rest (handed h.packet h.arrival)).wanted ≡ w
          → After cs all c (rows_in n rest) 0 (looked c rest (handed h.packet h.arrival)) done h hs
          (unseen n rest (all-at-hand rest)) w
          → Has c rest (h ∷ hs)
      by next (wanted.Nothing v) e a = record { verdict = v; tells = says (all-at-hand rest) l refl e }
      by next wanted.Packet e m =
          let then = next l.check (drop l.used rest) (n - m.past) (left-octets cs all c rest n len l (done ++ h ∷ []) hs m)
          (left-fits cs all c rest n len l (done ++ h ∷ []) hs m) in
          record { verdict = then.verdict; tells = goes (all-at-hand rest) l refl e then.tells }
      by next wanted.Rows e a =
          let none : n - length rest / 17 ≡ 0 = omega (arith, len) in
          let all_seen : length (unseen n rest (all-at-hand rest)) ≡ 0 = length-rows (n - length rest / 17)
          (drop (17 * (length rest / 17)) rest) ∙ none in
          absurd (omega (arith, a.1, a.2, all_seen))

module _ (t : List ℕ) (o : (i : ℕ) → at t i < 256) (packets : List Handed) where
  has_by : (b : Bool) → badly_formed t (length t) ≡ b → Has (started (known t)) (drop (rows_from (started (known t)).columns) t) packets
  has_by true h =
      told-bad (started (known t)) (ap (λ (c : Check). c.formed) (sym (refused-start t o packets h)))
      (drop (rows_from (started (known t)).columns) t) packets
  has_by false h =
      subst (λ (c : Check). Has c (drop (rows_from c.columns) t) packets) (ready-start t o packets h)
      (told-good (columns_of t) packets packets (ready (head_of t)) (drop (rows_from (column_count (head_of t))) t) (row_count t)
      (rows_left t o packets h) [] (start_fits t o packets h))

pub all_told : AllTold
all_told t packets o =
    let has = has_by t o packets (badly_formed t (length t)) refl in
    record { verdict = has.verdict; tells = has.tells }

-- what a look uses and wants of so many rows
record Fair (used n : ℕ) (l : Looked) : Type 0 where
  inside : l.used ≤ used + 17 * n
  starved : l.wanted ≡ wanted.Rows → l.used ≡ used + 17 * n

not_rows : {v : Verdict} → wanted.Nothing v ≡ wanted.Rows → ⊥
not_rows e = let z : ◌≡◌ {A = ℕ} 0 1 = cc in omega arith

not_packet : wanted.Packet ≡ wanted.Rows → ⊥
not_packet e = let z : ◌≡◌ {A = ℕ} 0 1 = cc in omega arith

fair : (rs : List Row) (c : Check) (h : Handed) (used : ℕ) → Fair used (length rs) (along c h used rs)
unfolding along
fair [] c h used =
    picks (Fair used 0) _ _ _
    (λ e. record { inside = omega arith; starved = λ d. absurd (not_rows d) })
    (λ e. record { inside = omega arith; starved = λ d. omega arith })
fair (r ∷ rs) c h used =
    picks (Fair used (suc (length rs))) _ _ _
    (λ e. record { inside = omega arith; starved = λ d. absurd (not_rows d) })
    (λ e. picks (Fair used (suc (length rs))) _ _ _
    (λ d. record { inside = omega arith; starved = λ f. absurd (not_packet f) })
    (λ d. picks (Fair used (suc (length rs))) _ _ _
    (λ f. let g = fair rs (behind_row c r) h (used + 17) in
    record { inside = omega (arith, g.inside); starved = λ i. omega (arith, g.starved i) })
    (λ f. record { inside = omega arith; starved = λ i. absurd (not_rows i) })))

pub each-looks-on : EachLooksOn
each-looks-on c w h = by c.formed refl
  where
    by : (b : Bool) → c.formed ≡ b → LooksOn c w h
    by true e =
        let size = length-rows (length w / 17) w in
        let f : Fair 0 (length w / 17) (looked c w h) =
        subst (λ (n : ℕ). Fair 0 n (looked c w h)) size
        (subst (Fair 0 (length (rows_in (length w / 17) w))) (formed-looks c w h e) (fair (rows_in (length w / 17) w) c h 0)) in
        record { inside = omega (arith, f.inside); starved = λ d. omega (arith, f.starved d) }
    by false e =
        let l = looks_not c w h (ap not e) in
        record {
          inside = rw (sym l) (omega arith);
          starved = λ d. absurd (not_rows (ap (λ (x : Looked). x.wanted) l ∙ d));
        }
