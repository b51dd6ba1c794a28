-- What the report's reader tells: an accepted report has refusal 0.
use Rattle.std.specs.Prelude.{Some, None}
use mathlib.Core.Path.{◌≡◌, refl, sym, ◌∙◌}
use mathlib.Core.Bool.{true, false, true≢false}
use mathlib.Core.List.{List}
use Prim.Native.Nat.{ℕ}
use Rattle.octets.proofs.Choices.{picks}
use Rattle.answer.specs.Told.{Told, accept}
use Rattle.packet.specs.declared.Packet.{Packet}
use Rattle.report.specs.Report.{in_pair, read_content, read_report}
use Rattle.report.specs.Answers.{Found}
use Rattle.report.specs.declared.Report.{Report}

abbrev pub Whole : Told Report → Type 0
Whole t = t.accepted ≡ true → t ≡ accept t.fields

never : {t : Told Report} → t.accepted ≡ false → Whole t
never f h = absurd (true≢false (sym h ∙ f))

pair-whole : (f : Found) (p : Packet) (s : List ℕ) → Whole (in_pair f p s)
unfolding in_pair
pair-whole None p s = never refl
pair-whole (Some e) p s = picks Whole _ _ _ (λ t. never refl) (λ f. picks Whole _ _ _ (λ t. never refl) (λ g h. refl))

pub report-whole : (s : List ℕ) → Whole (read_report s)
unfolding read_report read_content
report-whole s = picks Whole _ _ _ (λ t. pair-whole _ _ s) (λ f. never refl)

-- and no answer tells an octet
abbrev Untold : Told Report → Type 0
Untold t = t.octet ≡ 0

pair-untold : (f : Found) (p : Packet) (s : List ℕ) → Untold (in_pair f p s)
unfolding in_pair
pair-untold None p s = refl
pair-untold (Some e) p s = picks Untold _ _ _ (λ t. refl) (λ f. picks Untold _ _ _ (λ t. refl) (λ g. refl))

pub no-octet : (s : List ℕ) → Untold (read_report s)
unfolding read_report read_content
no-octet s = picks Untold _ _ _ (λ t. pair-untold _ _ s) (λ f. refl)
