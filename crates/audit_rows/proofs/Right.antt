-- The verdict of a whole second reading.
use Prim.Native.Nat.{ℕ, ◌<◌}
use native.Mathlib.Omega.{arith}
use mathlib.Core.Path.{◌≡◌, refl, sym, ap, ◌∙◌, subst}
use mathlib.Core.Logic.{◌⊎◌, inl, inr}
use mathlib.Core.Bool.{true, false, true≢false}
use mathlib.Core.List.{List, [], ◌∷◌, ◌++◌, append-nil}
use lib.ListN.{length, drop}
use Rattle.octets.specs.Numbers.{at}
use Rattle.rules.specs.Channel.{Handed}
use Rattle.table.specs.Table.{rows_from}
use Rattle.table.specs.Form.{known, started}
use Rattle.table.specs.Calls.{Tells}
use Rattle.table.specs.declared.Verdict.{Verdict}
use Rattle.table.proofs.Keeping.{keeps_on}
use Rattle.table.proofs.Verdicts.{tells-verdict}
use Rattle.audit_form.proofs.Came.{whole}
use Rattle.audit_rows.specs.Goes.{fresh, Looks, packet, says, more, none, Going, idle, stays, looks, Filling, full, fills, dry, stood}
use Rattle.audit_rows.specs.Goes.{tells}
use Rattle.window.specs.Window.{Refills}
use Rattle.audit_rows.specs.Right.{GoesThen, Same, RefusedLeaves, OverStays, LastRead, OnlyReadsFail, OnlyReadsFailAtTheEnd, RightOf}
use Rattle.audit_rows.specs.Right.{RightVerdict}
use Rattle.audit_rows.specs.declared.Audit.{Audit}
use Rattle.audit_rows.specs.declared.Turned.{Turned}
use Rattle.audit_rows.proofs.Reading.{going_then}
use Rattle.audit_rows.proofs.Coming.{Comes, stands, told, fell, going-back, ending-back}

pub goes_on_then : GoesThen
goes_on_then a b c rows rows₁ rows₂ m m₁ ps qs x y = going_then qs x y

-- ---- what stays, and what is said to have failed

nothing-handed : {a b : Audit} {rows more₁ rows' : List ℕ} {ps : List Handed} → ps ≡ [] → Going a rows ps more₁ b rows'
    → Same a rows more₁ b rows'
nothing-handed e idle = record { audit = refl; buffer = refl; none = refl }
nothing-handed e (stays o) = record { audit = refl; buffer = refl; none = refl }
nothing-handed e (looks {h = h} {ps} g x k) = let z : ◌≡◌ {A = ℕ} (length (h ∷ ps)) 0 = ap length e in absurd (omega (arith, z))

pub refused-leaves : RefusedLeaves
refused-leaves a b rows more₁ rows' octets lengths r g = nothing-handed refl g

stays_same : {a b : Audit} {rows more₁ rows' : List ℕ} {ps : List Handed} → a.over ≡ true → Going a rows ps more₁ b rows'
    → Same a rows more₁ b rows'
stays_same o idle = record { audit = refl; buffer = refl; none = refl }
stays_same o (stays p) = record { audit = refl; buffer = refl; none = refl }
stays_same o (looks g x k) = absurd (true≢false (sym o ∙ g))

pub over-stays : OverStays
over-stays a b rows more₁ rows' ps o g = stays_same o g

-- a look leaves no failure, or its read failed
look_fails : {a : Audit} {rows piece rows' : List ℕ} {h : Handed} {t : Turned} → a.read.failed ≡ false → Looks a rows h t piece rows'
    → (t.audit.read.failed ≡ false) ⊎ LastRead t.audit
look_fails f (packet l e d) = inl f
look_fails f (says l v e d) = inl f
look_fails f (more l r g e d s) = inr (record { rows = _; at = _; end = _; rows' = _; refills = g })
look_fails f (none l r g e d z) = inr (record { rows = _; at = _; end = _; rows' = _; refills = g })

same_read : {a b : Audit} → b.read ≡ a.read → LastRead a → LastRead b
same_read e x =
    record {
      rows = x.rows;
      at = x.at;
      end = x.end;
      rows' = x.rows';
      refills = subst (Refills x.rows x.at x.end x.rows')
          (sym e) x.refills;
    }

-- the last read stays the last, or another is made
reads_on : {a b : Audit} {rows more₁ rows' : List ℕ} {ps : List Handed} → Going a rows ps more₁ b rows' → LastRead a → LastRead b
reads_on idle x = x
reads_on (stays o) x = x
reads_on (looks g (packet l e d) k) x = reads_on k (same_read refl x)
reads_on (looks g (says l v e d) k) x = reads_on k (same_read refl x)
reads_on (looks g (more l r y e d s) k) x = reads_on k (record { rows = _; at = _; end = _; rows' = _; refills = y })
reads_on (looks g (none l r y e d z) k) x = reads_on k (record { rows = _; at = _; end = _; rows' = _; refills = y })

fails : {a b : Audit} {rows more₁ rows' : List ℕ} {ps : List Handed} → a.read.failed ≡ false → Going a rows ps more₁ b rows'
    → b.read.failed ≡ true
    → LastRead b
fails f idle e = absurd (true≢false (sym e ∙ f))
fails f (stays o) e = absurd (true≢false (sym e ∙ f))
fails {b = b} f (looks {t = t} g x k) e = by (look_fails f x) (λ q. fails q k e)
  where
    by : (t.audit.read.failed ≡ false) ⊎ LastRead t.audit → (t.audit.read.failed ≡ false → LastRead b) → LastRead b
    by (inl q) next = next q
    by (inr q) next = reads_on k q

pub only_reads_fail : OnlyReadsFail
only_reads_fail a b rows more₁ rows' ps f g e = fails f g e

filling-fails : {a b : Audit} {rows more₁ rows' : List ℕ} → a.read.failed ≡ false → Filling a rows more₁ b rows' → b.read.failed ≡ true
    → LastRead b
filling-fails f (full s) e = absurd (true≢false (sym e ∙ f))
filling-fails f (fills r g s some k) e = filling-fails (whole r some) k e
filling-fails f (dry r g s z) e = record { rows = _; at = _; end = _; rows' = _; refills = g }

pub only_reads_fail_at_the_end : OnlyReadsFailAtTheEnd
only_reads_fail_at_the_end a b rows more₁ rows' f (stood o) e = absurd (true≢false (sym e ∙ f))
only_reads_fail_at_the_end a b rows more₁ rows' f (tells o k) e = same_read refl (filling-fails f k e)

-- ---- the verdict

module _ (table : List ℕ) (packets : List Handed) (rows m behind : List ℕ) (v : Verdict) (o : (i : ℕ) → at table i < 256)
    (cut : drop (rows_from (started (known table)).columns) table ≡ m ++ behind) where
  by : Comes (fresh (started (known table))) rows m behind packets v → RightOf table packets m v
  by (stands p f n e) = absurd (true≢false (sym p))
  by (told p k) =
      inl (tells-verdict table packets (table ∷ []) (known table ∷ []) (known table) v o (append-nil table) (sym (keeps_on [] table), refl)
      (subst (λ (x : List ℕ). Tells (started (known table)) x packets v) (sym cut) k))
  by (fell p s e) = inr (e, omega (arith, s))

pub right-verdict : RightVerdict
right-verdict table packets rows rows₁ rows₂ m last behind b c o g e f cut =
    by table packets rows (m ++ last) behind c.verdict o cut
    (subst (λ (ps : List Handed). Comes (fresh (started (known table))) rows (m ++ last) behind ps c.verdict) (append-nil packets)
    (going-back g last behind [] c.verdict (ending-back e f behind)))
