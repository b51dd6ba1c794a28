-- A line that the report's writer gave is placed, and what was placed is what the writer gives.
use Rattle.std.specs.Prelude.{Ok}
use Prim.Native.Nat.{ℕ}
use native.Mathlib.Omega.{arith}
use mathlib.Core.Path.{◌≡◌, refl, sym, ap, ◌∙◌}
use mathlib.Core.Bool.{Bool, true, false}
use mathlib.Core.List.{List, [], ◌∷◌}
use borrow.Author.Tests.{le-ltb, eq-eqb, ne_eqb, eqb-true, not-false}
use Rattle.octets.specs.Pick.{pick}
use Rattle.octets.proofs.Choices.{not_picked}
use Rattle.answer.specs.Told.{Told, accept}
use Rattle.answer.proofs.Told.{same-fields, refuse_or_accept}
use Rattle.report.specs.Report.{read_report, pixels_of}
use Rattle.report.specs.Write.{report_octets}
use Rattle.report.proofs.Back.{reads-back}
use Rattle.report.proofs.Tells.{Whole, report-whole}
use Rattle.report.specs.declared.Content.{Content}
use Rattle.report.specs.declared.Content.TheVariants as content
use Rattle.report.specs.declared.Report.{Report}
use Rattle.image.specs.Line.{Image, line_of, placed}
use Rattle.image.specs.Placing.{Outcome, observed, refused, outcome, reported, brought, placing}
use Rattle.image.specs.Back.{line_report, PlacesOctets}
use Rattle.image.proofs.Told.{observed_apart}
use Rattle.report.specs.declared.Line.{Line as ReportLine}

pub head_of : (x y : List ℕ) → ◌≡◌ {A = List (List ℕ)} (x ∷ []) (y ∷ []) → x ≡ y
head_of x y e = cc

pub places-octets : PlacesOctets
unfolding outcome reported brought placing pick
places-octets p l pixels arrival before answer after right ready free h =
    let s : List ℕ = report_octets (line_report p l) (pixels ∷ []) in
    let back = reads-back (line_report p l) (pixels ∷ []) right in
    let row : pixels_of s ≡ pixels = head_of _ _ back.parts in
    let o : outcome s arrival l.image before ≡ observed (Ok l.line) (placed before (line_of l.line pixels arrival)) =
    simp (
      le-ltb _ _ ready.room.pixels,
      le-ltb _ _ ready.room.lines,
      ne_eqb arrival 0
          (λ e. omega (arith, ready.numbered)),
      back.fields,
    )
    (simp (eq-eqb l.image l.image refl) (ap (λ (x : List ℕ). placing before (line_of l.line x arrival)) row ∙ simp free)) in
    let e = observed_apart (h ∙ o) in
    record { answers = ap (λ x. x.0) e; leaves = ap (λ x. x.1) e }

-- what was left was placed, and not refused
module _ (packet : List ℕ) (arrival wanted n : ℕ) (before after : Image) where
  abbrev pub line_left : Outcome
  line_left = observed (Ok n) after

  no_refusal : (m : ℕ) → refused m before ≡ line_left → ⊥
  no_refusal m e = refuse_or_accept (ap (λ (o : Outcome). o.answer) e)

  pub record Lined (c : Content) : Type 0 where
    pub fields : ReportLine
    pub content : c ≡ content.Line fields
    pub image : fields.image ≡ wanted
    pub line : fields.line ≡ n
    pub leaves : after ≡ placed before (line_of fields.line (pixels_of packet) arrival)

  lined : (c : Content) → brought packet arrival wanted before c ≡ line_left → Lined c
  unfolding brought placing
  lined (content.Line l) h =
      let a = not_picked _ _ _ _ h (no_refusal _) in
      let b = not_picked _ _ _ _ a.1 (no_refusal _) in
      record {
        fields = l;
        content = refl;
        image = eqb-true _ _ (not-false _ a.0);
        line = same-fields (ap (λ (o : Outcome). o.answer) b.1);
        leaves = sym (ap (λ (o : Outcome). o.image) b.1);
      }
  lined (content.Success c) h = absurd (no_refusal _ h)
  lined (content.Failure c) h = absurd (no_refusal _ h)
  lined (content.Housekeeping c) h = absurd (no_refusal _ h)
  lined (content.Available c) h = absurd (no_refusal _ h)

  report_lined : (t : Told Report) → Whole t → reported packet arrival wanted before t ≡ line_left → (t ≡ accept t.fields) × Lined
      t.fields.content
  unfolding reported pick
  report_lined t w h = by t.accepted refl
    where
      by : (b : Bool) → t.accepted ≡ b → (t ≡ accept t.fields) × Lined t.fields.content
      by true e = (w e, lined _ (simp e at h))
      by false e = absurd (no_refusal _ (simp e at h))

  pub placed-line : outcome packet arrival wanted before ≡ line_left
      → (read_report packet ≡ accept (read_report packet).fields) × Lined (read_report packet).fields.content
  unfolding outcome
  placed-line h =
      let a = not_picked _ _ _ _ h (no_refusal _) in
      let b = not_picked _ _ _ _ a.1 (no_refusal _) in
      report_lined (read_report packet) (report-whole packet) b.1
