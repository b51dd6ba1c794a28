-- Worked out: a table without columns and rows, which the first reading brings in one piece, against a KISS stream of which nothing comes.
-- Both readings come to an end, and it passes: what is said of readings that pass is not said of nothing.
use Rattle.std.specs.Prelude.{ℕ, ◌≡◌, List, [], ◌∷◌}
use Rattle.source.specs.Scan.{fresh_kiss}
use Rattle.receiver.specs.Receive.{fresh_stream}
use Rattle.receiver.specs.declared.Receiver.{Receiver}
use Rattle.table.specs.declared.Verdict.TheVariants.{Passes}
use Rattle.audit_run.specs.Whole.{Readings, first_read, input_read, rows_read, Checked}

abbrev pub receiver : Receiver
receiver = fresh_stream fresh_kiss 0

abbrev pub table : List ℕ
table = 0 ∷ 0 ∷ 0 ∷ 0 ∷ 0 ∷ 0 ∷ 0 ∷ 0 ∷ []

pub record Example : Type 0 where
  pub readings : Readings receiver []
  pub first : first_read readings ≡ table
  pub input : input_read readings ≡ []
  pub rows : rows_read readings ≡ []
  pub passes : Checked readings Passes
