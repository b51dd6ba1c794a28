-- Laws of an image's place in the list of images, and of what a report brings.
use Rattle.std.specs.Prelude.{Ok, Err}
use Prim.Native.Nat.{ℕ, suc, ◌+◌, ◌-◌, ◌*◌, ◌≤◌, ◌<◌}
use mathlib.Core.Path.{◌≡◌, refl, sym, ap, ◌∙◌}
use mathlib.Core.Bool.{true, false, ◌||◌}
use mathlib.Core.List.{List, [], ◌∷◌}
use native.Mathlib.Omega.{arith}
use types.Run.{OneOf, miss}
use denote.Enum.Declared.{tag_of}
use lib.Dec.{eqb, ltb}
use lib.ListN.{length, set}
use borrow.Author.Tests.{lt-ltb, le-ltb}
use Rattle.octets.specs.Numbers.{at}
use Rattle.octets.specs.Pick.{pick}
use Rattle.octets.proofs.Choices.{picked, passed}
use Rattle.answer.specs.Told.{Told}
use Rattle.answer.specs.declared.Reason.{Reason}
use Rattle.report.specs.Report.{told}
use Rattle.report.specs.declared.Report.{Report}
use Rattle.report.specs.Answers.{ReportRead}
use Rattle.report.specs.declared.Content.{Content}
use Rattle.report.specs.declared.Content.TheVariants as content
use Rattle.report.specs.declared.Line.{Line}
use Rattle.report.specs.contracts.Content.{the_type}
use Rattle.summary_count.specs.Count.{added, place_from, image_place, line_noted, content_noted, report_noted}

-- a place looked for from place i on
module _ (key : ℕ) (counts : List ℕ) where
  pub from_first : image_place key counts ≡ place_from 1024 0 key counts
  unfolding image_place
  from_first = refl

  module _ (i : ℕ) (e : image_place key counts ≡ place_from (1024 - i) i key counts) where
    abbrev held : ℕ
    held = at counts (136192 + i)

    next : i < 1024 → image_place key counts ≡ pick (eqb held 0 || eqb held key) i (place_from (1024 - (i + 1)) (i + 1) key counts)
    unfolding place_from
    next h =
        let n : 1024 - i ≡ suc (1024 - (i + 1)) = omega arith in
        e ∙ ap (λ (k : ℕ). place_from k i key counts) n

    pub found_here : {h : ℕ} → i < 1024 → h ≡ held → (eqb h 0 || eqb h key) ≡ true → i ≡ image_place key counts
    found_here l f t =
        picked _ _ _ (ap (λ (x : ℕ). eqb x 0 || eqb x key) (sym f) ∙ t) ∙ sym (next l)

    pub further-on : {h : ℕ} → i < 1024 → h ≡ held → (eqb h 0 || eqb h key) ≡ false
        → image_place key counts ≡ place_from (1024 - (i + 1)) (i + 1) key counts
    further-on l f t =
        next l ∙ sym (passed _ _ _ _ (ap (λ (x : ℕ). eqb x 0 || eqb x key) (sym f) ∙ t) refl)

    pub none_found : 1024 ≤ i → i ≡ image_place key counts
    unfolding place_from
    none_found h =
        let n : 1024 - i ≡ 0 = omega arith in
        sym (e ∙ ap (λ (k : ℕ). place_from k i key counts) n)

-- a line noted at its image's place, or without one
module _ (image line : ℕ) (counts : List ℕ) {i key : ℕ} (k : key ≡ image + 1) (e : i ≡ image_place key counts) where
  here : i ≡ image_place (image + 1) counts
  here = e ∙ ap (λ (n : ℕ). image_place n counts) k

  pub noted_here : {a b : List ℕ} {wide : ℕ} → i < 1024 → wide ≡ line → a ≡ set counts (136192 + i) key
      → b ≡ set a (137216 + (i * 120 + wide)) 1 → b ≡ line_noted image line counts
  unfolding line_noted
  noted_here {a} {b} {wide} l w f g =
      g
      ∙ ap (λ (x : List ℕ). set x (137216 + (i * 120 + wide)) 1) (f ∙ ap (λ (n : ℕ). set counts (136192 + i) n) k)
      ∙ ap (λ (n : ℕ). set (set counts (136192 + i) (image + 1)) (137216 + (i * 120 + n)) 1) w
      ∙ ap (λ (n : ℕ). set (set counts (136192 + n) (image + 1)) (137216 + (n * 120 + line)) 1) here
      ∙ picked _ _ _ (ap (λ (n : ℕ). ltb n 1024) (sym here) ∙ lt-ltb i 1024 l)

  pub noted-nowhere : {a : List ℕ} → 1024 ≤ i → a ≡ added counts 0 1 → a ≡ line_noted image line counts
  unfolding line_noted
  noted-nowhere l f = passed _ _ _ _ (ap (λ (n : ℕ). ltb n 1024) (sym here) ∙ le-ltb i 1024 l) f

-- a report that is no image line
not_noted : (counts : List ℕ) (c : Content) → OneOf (0 ∷ 1 ∷ 2 ∷ 3 ∷ []) (tag_of the_type c) → counts ≡ content_noted c counts
not_noted counts (content.Success c) k = refl
not_noted counts (content.Failure c) k = refl
not_noted counts (content.Housekeeping c) k = refl
not_noted counts (content.Available c) k = refl
not_noted counts (content.Line c) k = absurd (miss (0 ∷ 1 ∷ 2 ∷ 3 ∷ []) 4 tt k)

-- by what a report's reader gave
module _ (counts : List ℕ) {x : ReportRead} {t : Told Report} (e : told x ≡ t) where
  pub report-refused : {n : Reason} → x ≡ Err n → counts ≡ report_noted t counts
  unfolding pick
  report-refused h =
      ap (λ (y : ReportRead). report_noted (told y) counts) (sym h) ∙ ap (λ (y : Told Report). report_noted y counts) e

  module _ {r : Report} (h : x ≡ Ok r) where
    by_content_lem : content_noted r.content counts ≡ report_noted t counts
    unfolding pick
    by_content_lem =
        ap (λ (y : ReportRead). report_noted (told y) counts) (sym h) ∙ ap (λ (y : Told Report). report_noted y counts) e

    pub other-brought : OneOf (0 ∷ 1 ∷ 2 ∷ 3 ∷ []) (tag_of the_type r.content) → counts ≡ report_noted t counts
    other-brought k = not_noted counts r.content k ∙ by_content_lem

    pub line-brought : {l : Line} {a : List ℕ} → r.content ≡ content.Line l → a ≡ content_noted (content.Line l) counts
        → a ≡ report_noted t counts
    line-brought f g = g ∙ ap (λ (c : Content). content_noted c counts) (sym f) ∙ by_content_lem
