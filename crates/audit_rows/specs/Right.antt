-- A whole second reading of a table tells the verdict of Table on what was read.
use Rattle.std.specs.Prelude.{ℕ, ◌*◌, ◌<◌, ◌≡◌, ◌⊎◌, true, false, List, [], ◌++◌, length, drop, Err}
use Rattle.octets.specs.Numbers.{at}
use Rattle.answer.specs.declared.Refusal.{Refusal}
use Rattle.rules.specs.Channel.{Handed}
use Rattle.window.specs.Window.{Refills}
use Rattle.table.specs.Table.{row_octets, rows_from, verdict}
use Rattle.table.specs.Form.{known, started}
use Rattle.table.specs.Look.{ill_formed}
use Rattle.table.specs.declared.Verdict.{Verdict}
use Rattle.audit_rows.specs.Goes.{fresh, Going, Ending}
use Rattle.audit_rows.specs.Frame.{handed_by}
use Rattle.audit_rows.specs.declared.Audit.{Audit}

-- What was gone on with in two calls was gone on with in one, that brought what both did.
abbrev pub GoesThen : Type 0
GoesThen = (a b c : Audit) (rows rows₁ rows₂ more more₁ : List ℕ) (ps qs : List Handed)
    → Going a rows ps more b rows₁ → Going b rows₁ qs more₁ c rows₂ → Going a rows (ps ++ qs) (more ++ more₁) c rows₂

-- Beside no packet, as with a frame that was refused, and once the reading is over, nothing changes and nothing is read.
pub record Same (a : Audit) (rows more : List ℕ) (b : Audit) (rows' : List ℕ) : Type 0 where
  pub audit : b ≡ a
  pub buffer : rows' ≡ rows
  pub none : more ≡ []

abbrev pub RefusedLeaves : Type 0
RefusedLeaves = (a b : Audit) (rows more rows' octets lengths : List ℕ) (r : Refusal)
    → Going a rows (handed_by (Err r) octets lengths) more b rows' → Same a rows more b rows'

abbrev pub OverStays : Type 0
OverStays =
    (a b : Audit) (rows more rows' : List ℕ) (ps : List Handed) → a.over ≡ true → Going a rows ps more b rows' → Same a rows more b rows'

-- 'A read failed' is said only where a read was made that answered so itself.
pub record LastRead (b : Audit) : Type 0 where
  pub rows : List ℕ
  pub at : ℕ
  pub end : ℕ
  pub rows' : List ℕ
  pub refills : Refills rows at end rows' b.read

abbrev pub OnlyReadsFail : Type 0
OnlyReadsFail = (a b : Audit) (rows more rows' : List ℕ) (ps : List Handed) → a.read.failed ≡ false
    → Going a rows ps more b rows' → b.read.failed ≡ true → LastRead b

abbrev pub OnlyReadsFailAtTheEnd : Type 0
OnlyReadsFailAtTheEnd = (a b : Audit) (rows more rows' : List ℕ) → a.read.failed ≡ false
    → Ending a rows more b rows' → b.read.failed ≡ true → LastRead b

-- The verdict v of a table beside these packets, `more` being read of its rows: it is right; or it is that the table is badly formed, and
-- fewer octets were read than the rows have.
abbrev pub RightOf : List ℕ → List Handed → List ℕ → Verdict → Type 0
RightOf table packets more v = (v ≡ verdict table packets) ⊎ ((v ≡ ill_formed) × (length more < row_octets * (started (known table)).rows))

-- For every table of which the first reading kept this, and whose rows begin with what the reads of the second brought, whatever stands
-- behind that.
abbrev pub RightVerdict : Type 0
RightVerdict = (table : List ℕ) (packets : List Handed) (rows rows₁ rows₂ more last behind : List ℕ) (b c : Audit)
    → ((i : ℕ) → at table i < 256)
    → Going (fresh (started (known table))) rows packets more b rows₁ → Ending b rows₁ last c rows₂ → c.read.failed ≡ false
    → drop (rows_from (started (known table)).columns) table ≡ (more ++ last) ++ behind
    → RightOf table packets (more ++ last) c.verdict
