-- The form that is asked for.
use Rattle.std.specs.Prelude.{Bool, true, false}
use Rattle.summary_pen.specs.Form.{Form}
use Rattle.summary_pen.specs.Lines.{as_text}
use Rattle.summary_pen.specs.Rows.{as_csv}

abbrev pub form : Bool → Form
form true = as_csv
form false = as_text
