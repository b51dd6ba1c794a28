-- Laws that the proof of `place` cites: its answers, one for each end.
use Rattle.std.specs.Prelude.{Ok, Err}
use Prim.Native.Nat.{ℕ}
use mathlib.Core.Path.{◌≡◌, refl, sym, ap, subst, ◌∙◌}
use mathlib.Core.List.{List, [], ◌∷◌}
use mathlib.Core.Bool.{Bool, true, false}
use lib.ListN.{length}
use types.Run.{OneOf, miss}
use denote.Enum.Declared.{tag_of}
use borrow.Author.Tests.{eq-eqb, ne_eqb}
use Rattle.octets.specs.Pick.{pick}
use Rattle.octets.proofs.Choices.{picked, passed}
use Rattle.answer.specs.Told.{Told, accept, refuse_for, octet_of}
use Rattle.answer.specs.declared.Reason.{Reason}
use Rattle.answer.specs.Refusals.{not_line, image_other, line_held}
use Rattle.report.specs.Report.{no_report, read_report, pixels_of}
use Rattle.report.proofs.Tells.{no-octet}
use Rattle.report.specs.declared.Content.{Content}
use Rattle.report.specs.declared.Content.TheVariants as content
use Rattle.report.specs.declared.Report.{Report}
use Rattle.report.specs.Answers.{ReportRead}
use Rattle.report.specs.contracts.Content.{the_type}
use Rattle.image.specs.Line.{Image, Line, line_of, held_otherwise, placed, Fits}
use Rattle.image.specs.Placing.{Outcome, observed, refused, placing, brought, reported}
use Rattle.image.specs.Asked.{LineFits, Brings}
use Rattle.report.specs.Report.{told as report-told}
use Rattle.report.specs.declared.Line.{Line as ReportLine}

-- said is whether the line is held with other pixels
module _ (image : Image) (l : Line) {said : Bool} (e : said ≡ held_otherwise image l.line l.pixels) where
  pub line-held : said ≡ true → refused line_held image ≡ placing image l
  unfolding placing
  line-held h = picked _ _ _ (sym e ∙ h)

  pub line-placed : {left : Image} → said ≡ false → left ≡ placed image l
      → record { answer = accept l.line; image = left } ≡ placing image l
  unfolding placing
  line-placed h p = passed _ _ _ _ (sym e ∙ h) (ap (λ (i : Image). record { answer = accept l.line; image = i }) p)

module _ (packet : List ℕ) (arrival wanted : ℕ) (image : Image) where
  -- a content whose variant is one of the first four
  pub not_line_lem : (c : Content) → OneOf (0 ∷ 1 ∷ 2 ∷ 3 ∷ []) (tag_of the_type c)
      → refused not_line image ≡ brought packet arrival wanted image c
  unfolding brought
  not_line_lem (content.Success c) k = refl
  not_line_lem (content.Failure c) k = refl
  not_line_lem (content.Housekeeping c) k = refl
  not_line_lem (content.Available c) k = refl
  not_line_lem (content.Line l) k = absurd (miss (0 ∷ 1 ∷ 2 ∷ 3 ∷ []) 4 tt k)

  module _ {c : Content} {l : ReportLine} (e : c ≡ content.Line l) where
    pub other-image : (l.image ≡ wanted → ⊥) → refused image_other image ≡ brought packet arrival wanted image c
    unfolding brought
    other-image n = picked _ _ _ (simp (ne_eqb _ _ n)) ∙ ap (brought packet arrival wanted image) (sym e)

    pub this_image : {pixels : List ℕ} {o : Outcome} → l.image ≡ wanted → pixels ≡ pixels_of packet
        → o ≡ placing image (line_of l.line pixels arrival) → o ≡ brought packet arrival wanted image c
    unfolding brought
    this_image h p q =
        q ∙ passed _ _ _ _ (simp (eq-eqb _ _ h)) (ap (λ (d : List ℕ). placing image (line_of l.line d arrival)) p)
        ∙ ap (brought packet arrival wanted image) (sym e)

    pub line-fits : {pixels : List ℕ} → pixels ≡ pixels_of packet → Brings c packet image → Fits image (line_of l.line pixels arrival)
    line-fits p b =
        let f : LineFits (content.Line l) packet = subst (λ (d : Content). LineFits d packet) e b.fits in
        record { line = f.0; pixels = ap length p ∙ f.1; room = b.room }

-- x is what the report's reader gave
module _ (packet : List ℕ) (arrival wanted : ℕ) (image : Image) {x : ReportRead} (e : report-told x ≡ read_report packet) where
  pub report-accepted : {r : Report} {o : Outcome} → x ≡ Ok r → o ≡ brought packet arrival wanted image r.content
      → o ≡ reported packet arrival wanted image (read_report packet)
  unfolding reported pick
  report-accepted k q = simp (sym e ∙ ap report-told k) q

  pub report-refused : {n : Reason} → x ≡ Err n → observed (Err n) image ≡ reported packet arrival wanted image (read_report packet)
  unfolding reported pick
  report-refused {n} k =
      let told : read_report packet ≡ refuse_for no_report n = sym e ∙ ap report-told k in
      let octet : octet_of n ≡ 0 = sym (ap (λ (t : Told Report). t.octet) told) ∙ no-octet packet in
      simp (told, octet)
