-- The second reading of a table, call by call: what each does is fixed but for what the reads bring. A read is made only where a row is
-- missing, and 'a read failed' is what the last one answered itself.
use Rattle.std.specs.Prelude.{ℕ, ◌-◌, ◌*◌, ◌+◌, ◌≤◌, ◌<◌, ◌≡◌, Bool, true, false, List, [], ◌∷◌, ◌++◌, length}
use Rattle.octets.specs.Pick.{pick}
use Rattle.rules.specs.Channel.{Handed}
use Rattle.window.specs.Window.{hand, Refills, unread}
use Rattle.window.specs.declared.Refilled.{Refilled}
use Rattle.table.specs.Table.{row_octets}
use Rattle.table.specs.Look.{handed, looked, ended}
use Rattle.table.specs.declared.Check.{Check}
use Rattle.table.specs.declared.Looked.{Looked}
use Rattle.table.specs.declared.Verdict.{Verdict}
use Rattle.table.specs.declared.Verdict.TheVariants.{Passes}
use Rattle.table.specs.declared.Wanted.TheVariants as wanted
use Rattle.audit_form.specs.Reads.{brought}
use Rattle.audit_rows.specs.declared.Audit.{Audit}
use Rattle.audit_rows.specs.declared.Turned.{Turned}

-- No row is read yet.
abbrev pub fresh : Check → Audit
fresh c = record { check = c; at = 0; end = 0; over = false; read = unread; verdict = Passes }

-- The reading is over: the verdict stands, unless the last read failed.
abbrev pub stopped : Audit → Verdict → Audit
stopped a v = record { check = a.check; at = a.at; end = a.end; over = true; read = a.read; verdict = v }

-- The rows' octets at hand.
abbrev pub hand_of : Audit → List ℕ → List ℕ
hand_of a rows = hand rows a.at a.end

-- Behind a look; and behind a read, with the octets at hand that it left from the buffer's start on.
abbrev pub behind : Audit → Looked → Audit
behind a l = record { check = l.check; at = a.at + l.used; end = a.end; over = a.over; read = a.read; verdict = a.verdict }

abbrev pub having : Audit → Refilled → Audit
having a r = record { check = a.check; at = 0; end = r.have; over = a.over; read = r; verdict = a.verdict }

abbrev pub turned : Audit → Bool → Turned
turned a done = record { audit = a; done = done }

-- ---- beside packets

-- What the look is.
abbrev pub look_at : Audit → List ℕ → Handed → Looked
look_at a rows h = looked a.check (hand_of a rows) (handed h.packet h.arrival)

-- One look at the rows at hand beside the packet h, with the piece that a read brought: it is done with the packet or not.
pub data Looks (a : Audit) (rows : List ℕ) (h : Handed) : Turned → List ℕ → List ℕ → Type 0 where
  -- The next packet is wanted: nothing is read.
  packet : (l : Looked) → l ≡ look_at a rows h → l.wanted ≡ wanted.Packet → Looks a rows h (turned (behind a l) true) [] rows
  -- The verdict is told: nothing is read.
  says : (l : Looked) (v : Verdict) → l ≡ look_at a rows h → l.wanted ≡ wanted.Nothing v
      → Looks a rows h (turned (stopped (behind a l) v) true) [] rows
  -- Rows are wanted, and a read brought some.
  more : (l : Looked) {rows' : List ℕ} (r : Refilled) (g : Refills rows (a.at + l.used) a.end rows' r)
      → l ≡ look_at a rows h → l.wanted ≡ wanted.Rows → brought r ≡ true
      → Looks a rows h (turned (having (behind a l) r) false) g.piece rows'
  -- Rows are wanted, and a read brought none: the table has ended, or as that read says it failed.
  none : (l : Looked) {rows' : List ℕ} (r : Refilled) (g : Refills rows (a.at + l.used) a.end rows' r)
      → l ≡ look_at a rows h → l.wanted ≡ wanted.Rows → brought r ≡ false
      → Looks a rows h (turned (stopped (having (behind a l) r) (ended l.check (hand rows' 0 r.have))) true) g.piece rows'

-- Looks one after another beside these packets, with all that the reads in them brought.
pub data Going : Audit → List ℕ → List Handed → List ℕ → Audit → List ℕ → Type 0 where
  -- With no packet, or once it is over, nothing changes and nothing is read.
  idle : {a : Audit} {rows : List ℕ} → Going a rows [] [] a rows
  stays : {a : Audit} {rows : List ℕ} {ps : List Handed} → a.over ≡ true → Going a rows ps [] a rows
  looks : {a : Audit} {rows : List ℕ} {h : Handed} {ps : List Handed} {t : Turned} {piece rows₁ more : List ℕ} {b : Audit} {rows₂ : List ℕ}
      → a.over ≡ false → Looks a rows h t piece rows₁ → Going t.audit rows₁ (pick t.done ps (h ∷ ps)) more b rows₂
      → Going a rows (h ∷ ps) (piece ++ more) b rows₂

-- How many octets are missing at hand of the rows that are still to be looked at.
abbrev pub missing : Audit → List ℕ → ℕ
missing a rows = row_octets * (a.check.rows - a.check.row) - length (hand_of a rows)

-- ---- when no packet comes any more

-- Reads until a row's octets are at hand, or none come.
pub data Filling : Audit → List ℕ → List ℕ → Audit → List ℕ → Type 0 where
  full : {a : Audit} {rows : List ℕ} → row_octets ≤ length (hand_of a rows) → Filling a rows [] a rows
  fills : {a : Audit} {rows rows₁ more rows₂ : List ℕ} {b : Audit} (r : Refilled) (g : Refills rows a.at a.end rows₁ r)
      → length (hand_of a rows) < row_octets → brought r ≡ true → Filling (having a r) rows₁ more b rows₂
      → Filling a rows (g.piece ++ more) b rows₂
  dry : {a : Audit} {rows rows₁ : List ℕ} (r : Refilled) (g : Refills rows a.at a.end rows₁ r)
      → length (hand_of a rows) < row_octets → brought r ≡ false → Filling a rows g.piece (having a r) rows₁

-- A verdict that stands stays; otherwise crate table's call gives it for the row at hand.
pub data Ending (a : Audit) (rows : List ℕ) : List ℕ → Audit → List ℕ → Type 0 where
  stood : a.over ≡ true → Ending a rows [] a rows
  tells : {b : Audit} {piece rows' : List ℕ} → a.over ≡ false → Filling a rows piece b rows'
      → Ending a rows piece (stopped b (ended b.check (hand_of b rows'))) rows'

-- ---- the contracts: the piece is all that the call's reads brought, in their order

pub record Turns (a : Audit) (rows : List ℕ) (h : Handed) (t : Turned) (rows' : List ℕ) : Type 0 where
  pub piece : List ℕ
  pub looks : Looks a rows h t piece rows'

pub record Goes (a : Audit) (rows : List ℕ) (ps : List Handed) (a' : Audit) (rows' : List ℕ) : Type 0 where
  pub piece : List ℕ
  pub going : Going a rows ps piece a' rows'

pub record Fills (a : Audit) (rows : List ℕ) (a' : Audit) (rows' : List ℕ) : Type 0 where
  pub piece : List ℕ
  pub filling : Filling a rows piece a' rows'

pub record Ends (a : Audit) (rows : List ℕ) (a' : Audit) (rows' : List ℕ) : Type 0 where
  pub piece : List ℕ
  pub ending : Ending a rows piece a' rows'
