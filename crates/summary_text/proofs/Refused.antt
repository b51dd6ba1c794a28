-- Refusals in the form that is asked for.
use Prim.Native.Nat.{ℕ}
use mathlib.Core.Path.{◌≡◌}
use mathlib.Core.Bool.{Bool, true, false}
use mathlib.Core.List.{List}
use Rattle.summary_pen.specs.Page.{Page, Says}
use Rattle.summary_pen.specs.Words.{codes, pair}
use Rattle.summary_pen.specs.Form.{Form}
use Rattle.summary_pen.specs.Choice.{form}
use Rattle.summary_pen.proofs.InForm.{as_csv_lem, as_text_lem}
use Rattle.summary_text.specs.Text.{refusals}

module _ {csv : Bool} (counts : List ℕ) {p q : Page} where
  pub refused_csv : csv ≡ true → Says (refusals 1024 (pair (codes "frames,") (codes ",refused,")) counts) p q
      → Says (refusals 1024 (form csv).refused counts) p q
  refused_csv h a = as_csv_lem (λ (f : Form). refusals 1024 f.refused counts) h a

  pub refused-text : csv ≡ false → Says (refusals 1024 (pair (codes "refused with ") (codes ": ")) counts) p q
      → Says (refusals 1024 (form csv).refused counts) p q
  refused-text h a = as_text_lem (λ (f : Form). refusals 1024 f.refused counts) h a

  pub away_csv : csv ≡ true → Says (refusals 66560 (pair (codes "packets,") (codes ",turned away,")) counts) p q
      → Says (refusals 66560 (form csv).away counts) p q
  away_csv h a = as_csv_lem (λ (f : Form). refusals 66560 f.away counts) h a

  pub away-text : csv ≡ false → Says (refusals 66560 (pair (codes "turned away with ") (codes ": ")) counts) p q
      → Says (refusals 66560 (form csv).away counts) p q
  away-text h a = as_text_lem (λ (f : Form). refusals 66560 f.away counts) h a
