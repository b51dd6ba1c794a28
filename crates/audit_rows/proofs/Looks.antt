-- What a look leaves of the octets at hand, and what training's calls make of it.
use Prim.Native.Nat.{ℕ, ◌+◌, ◌-◌, ◌*◌, ◌/◌, ◌≤◌, ◌<◌}
use mathlib.Core.Path.{◌≡◌, refl, sym, ap, ◌∙◌, subst}
use mathlib.Core.Bool.{Bool, true, false, not}
use mathlib.Core.List.{List, [], ◌∷◌, ◌++◌}
use native.Mathlib.Omega.{arith}
use borrow.Author.Tests.{leb-false}
use lib.ListN.{length, drop, length-append, length-drop}
use lib.Seq.{drop-append-le}
use Rattle.octets.proofs.Choices.{picks}
use Rattle.rules.specs.Channel.{Handed}
use Rattle.table.specs.Table.{Row, row_octets, rows_in}
use Rattle.table.specs.Look.{behind_row, handed, ill_formed, along, looked, ended}
use Rattle.table.specs.Calls.{Window, Tells, says, goes, waits}
use Rattle.table.specs.declared.Verdict.{Verdict}
use Rattle.table.specs.declared.Check.{Check}
use Rattle.table.specs.declared.Looked.{Looked}
use Rattle.table.specs.declared.Wanted.TheVariants as wanted
use Rattle.table.proofs.Looking.{looks_not, ends-short}
use Rattle.table.proofs.Telling.{formed-looks}
use Rattle.table.proofs.Verdicts.{each-looks-on}

-- Fewer octets than the rows have that are still to be looked at.
abbrev pub Short : Check → List ℕ → Type 0
Short c octets = length octets < row_octets * (c.rows - c.row)

not_rows : {v : Verdict} → wanted.Nothing v ≡ wanted.Rows → ⊥
not_rows e = let z : ◌≡◌ {A = ℕ} 0 1 = cc in omega arith

not_packet : wanted.Packet ≡ wanted.Rows → ⊥
not_packet e = let z : ◌≡◌ {A = ℕ} 0 1 = cc in omega arith

-- the octets of the rows that were passed are used, and rows are wanted only if there are some left
record Passes (c : Check) (used : ℕ) (l : Looked) : Type 0 where
  rows : l.check.rows ≡ c.rows
  formed : l.check.formed ≡ c.formed
  octets : l.used + 17 * c.row ≡ used + 17 * l.check.row
  wants : l.wanted ≡ wanted.Rows → l.check.row < l.check.rows

passes : (rs : List Row) (c : Check) (h : Handed) (used : ℕ) → Passes c used (along c h used rs)
unfolding along
passes [] c h used =
    picks (Passes c used) _ _ _
    (λ e. record { rows = refl; formed = refl; octets = refl; wants = λ d. absurd (not_rows d) })
    (λ e. record { rows = refl; formed = refl; octets = refl; wants = λ d. leb-false _ _ e })
passes (r ∷ rs) c h used =
    picks (Passes c used) _ _ _
    (λ e. record { rows = refl; formed = refl; octets = refl; wants = λ d. absurd (not_rows d) })
    (λ e. picks (Passes c used) _ _ _
    (λ d. record { rows = refl; formed = refl; octets = refl; wants = λ f. absurd (not_packet f) })
    (λ d. picks (Passes c used) _ _ _
    (λ f. let g = passes rs (behind_row c r) h (used + 17) in
    record { rows = g.rows; formed = g.formed; octets = omega (arith, g.octets); wants = g.wants })
    (λ f. record { rows = refl; formed = refl; octets = refl; wants = λ i. absurd (not_rows i) })))

look_passes : (c : Check) (w : List ℕ) (h : Handed) (b : Bool) → c.formed ≡ b → Passes c 0 (looked c w h)
look_passes c w h true e = subst (Passes c 0) (formed-looks c w h e) (passes (rows_in (length w / 17) w) c h 0)
look_passes c w h false e =
    subst (Passes c 0) (looks_not c w h (ap not e)) (record { rows = refl; formed = refl; octets = refl; wants = λ d. absurd (not_rows d) })

rows-formed : (c : Check) (w : List ℕ) (h : Handed) (b : Bool) → c.formed ≡ b → (looked c w h).wanted ≡ wanted.Rows → not
    c.formed ≡ false
rows-formed c w h true e d = ap not e
rows-formed c w h false e d = absurd (not_rows (ap (λ (l : Looked). l.wanted) (looks_not c w h (ap not e)) ∙ d))

module _ (c : Check) (w : List ℕ) (h : Handed) {l : Looked} (e : l ≡ looked c w (handed h.packet h.arrival)) where
  pub used-inside : l.used ≤ length w
  used-inside = subst (λ (x : Looked). x.used ≤ length w) (sym e) (each-looks-on c w (handed h.packet h.arrival)).inside

  by : Passes c 0 l
  by = subst (Passes c 0) (sym e) (look_passes c w (handed h.packet h.arrival) c.formed refl)

  abbrev all : (x : List ℕ) → Window (w ++ x)
  all x = record { octets = w; behind = x; cut = refl }

  behind : (x : List ℕ) → drop l.used (w ++ x) ≡ drop l.used w ++ x
  behind x = drop-append-le l.used w x used-inside

  pub look_says : {v : Verdict} (x : List ℕ) (hs : List Handed) → l.wanted ≡ wanted.Nothing v → Tells c (w ++ x) (h ∷ hs) v
  look_says x hs d = says (all x) l e d

  pub look_goes : {v : Verdict} (x : List ℕ) (hs : List Handed) → l.wanted ≡ wanted.Packet
      → Tells l.check (drop l.used w ++ x) hs v → Tells c (w ++ x) (h ∷ hs) v
  look_goes {v} x hs d t = goes (all x) l e d (subst (λ (o : List ℕ). Tells l.check o hs v) (sym (behind x)) t)

  pub look_waits : {v : Verdict} (x : List ℕ) (hs : List Handed) → l.wanted ≡ wanted.Rows
      → Tells l.check (drop l.used w ++ x) (h ∷ hs) v → Tells c (w ++ x) (h ∷ hs) v
  look_waits {v} x hs d t =
      waits (all x) l e d (subst (λ (o : List ℕ). Tells l.check o (h ∷ hs) v) (sym (behind x)) t)

  pub look_short : (x : List ℕ) → Short l.check (drop l.used w ++ x) → Short c (w ++ x)
  look_short x s =
      omega (arith, s, by.rows, by.octets, used-inside, length-append w x, length-append (drop l.used w) x, length-drop l.used w)

  module _ (d : l.wanted ≡ wanted.Rows) where
    starved : length w < l.used + 17
    starved =
        subst (λ (x : Looked). x.wanted ≡ wanted.Rows → length w < x.used + 17) (sym e)
        (each-looks-on c w (handed h.packet h.arrival)).starved d

    pub rows_short : Short c w
    rows_short = omega (arith, starved, by.rows, by.octets, by.wants d)

    pub rows_fewer : (x : List ℕ) → 0 < length x → 17 * (l.check.rows - l.check.row) - length (drop l.used w ++ x) < 17 *
        (c.rows - c.row) - length w
    rows_fewer x some =
        omega (arith, starved, by.rows, by.octets, by.wants d, used-inside, length-append (drop l.used w) x, length-drop l.used w)

    pub rows_end : ended l.check (drop l.used w) ≡ ill_formed
    rows_end =
        let f : not c.formed ≡ false =
        rows-formed c w (handed h.packet h.arrival) c.formed refl (ap (λ (x : Looked). x.wanted) (sym e) ∙ d) in
        sym (ends-short l.check (drop l.used w) (ap not by.formed ∙ f) (by.wants d)
        (omega (arith, starved, length-drop l.used w)))
