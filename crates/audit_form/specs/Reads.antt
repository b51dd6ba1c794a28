-- The first reading of a table: reads one after another, and the form of all that they brought.
use Rattle.std.specs.Prelude.{ℕ, ◌≡◌, Bool, true, not, ◌&&◌, List, [], ◌++◌, eqb}
use Rattle.window.specs.Window.{Refills, unread}
use Rattle.window.specs.Turns.{Turns, none, more, Loops}
use Rattle.window.specs.declared.Refilled.{Refilled}
use Rattle.table.specs.Form.{known, grown}
use Rattle.audit_form.specs.declared.Reading.{Reading}
use Rattle.audit_form.specs.declared.Formed.{Formed}

-- A read brought octets and did not fail.
unfoldable pub brought : Refilled → Bool
brought r = not (eqb r.came 0) && not r.failed

-- One read to the buffer's start: the form grew by the piece that it brought, and another is made if it brought octets and did not fail.
pub record Grows (s : Reading) (buffer : List ℕ) (r : Reading) (buffer' : List ℕ) : Type 0 where
  pub refills : Refills buffer 0 0 buffer' r.read
  pub grows : r.form ≡ grown s.form refills.piece
  pub going : r.going ≡ brought r.read

-- Where the loop stands, and a turn of it, which writes nothing.
pub record Place : Type 0 where
  pub reading : Reading
  pub buffer : List ℕ

abbrev pub going_at : Place → Bool
going_at p = p.reading.going

pub record GrowsAt (p : Place) (said : List ℕ) (q : Place) : Type 0 where
  pub grows : Grows p.reading p.buffer q.reading q.buffer
  pub silent : said ≡ []

abbrev pub place : Reading → List ℕ → Place
place s buffer = record { reading = s; buffer = buffer }

-- Before the first read.
abbrev pub start : Reading
start = record { form = known []; read = unread; going = true }

-- The contract of the loop.
abbrev pub Looped : List ℕ → Formed → List ℕ → Type 0
Looped buffer r buffer' = Loops going_at GrowsAt (place start buffer) r.made (place r.reading buffer')

-- All that the reads brought, in their order.
abbrev pub brought_by : {p q : Place} {n : ℕ} {text : List ℕ} → Turns going_at GrowsAt p n text q → List ℕ
brought_by none = []
brought_by (more t g x) = brought_by t ++ x.grows.refills.piece

-- The form is that of exactly those octets.
abbrev pub FormOfAll : Type 0
FormOfAll = (buffer : List ℕ) (r : Formed) (buffer' : List ℕ) (l : Looped buffer r buffer')
    → r.reading.form ≡ known (brought_by l.made.turns)
