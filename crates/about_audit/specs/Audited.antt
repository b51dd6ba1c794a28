-- Document 02, M-112, from the octets of a table and an input to the line that is written: if it says that the table passes, no row claims
-- to
-- know a reading before the frame that told it arrived.
use Rattle.std.specs.Prelude.{ℕ, ◌≡◌, List, [], ◌∷◌, map}
use Rattle.std.proofs.Math.Option.{some}
use Rattle.std.proofs.Math.ListN.{get_elem?}
use Rattle.stretch.specs.Stretch.{Stretch}
use Rattle.source.specs.Found.{Item, opens, offers, found_in}
use Rattle.session.specs.Open.{opening}
use Rattle.session.specs.declared.Session.{Session}
use Rattle.receiver.specs.Run.{to_come}
use Rattle.receiver.specs.declared.Receiver.{Receiver}
use Rattle.about_delivery.specs.Run.{Call, Runs, Room, offer_of}
use Rattle.table.specs.Table.{Row, rows_of}
use Rattle.table.specs.declared.Verdict.TheVariants.{Passes}
use Rattle.about_table.specs.Trained.{handed_out, NotBefore}
use Rattle.audit_run.specs.Whole.{Readings, first_read, input_read, rows_read, Checked, AsRead}

-- All that a session is offered of what a source tells, and the session that is offered the first of it: one opened with t, once t is told.
abbrev pub offered : List Item → List Stretch
offered [] = []
offered (opens t ∷ xs) = offered xs
offered (offers x ∷ xs) = x ∷ offered xs

abbrev pub begins : Session → List Item → Session
begins s [] = s
begins s (opens t ∷ xs) = begins (opening t 0).session xs
begins s (offers x ∷ xs) = s

-- The session's run over the octets of an input: each call did what `Session::step` or `Session::turn_away` promises, with room enough, on
-- all
-- that the receiver's source finds in them; it hands out the packets that the octets make.
pub record Calls (a : Receiver) (kept octets : List ℕ) : Type 0 where
  pub calls : List Call
  pub offers : map offer_of calls ≡ offered (found_in a.source kept octets).items
  pub runs : Runs (begins a.session (found_in a.source kept octets).items) calls
  pub room : Room calls
  pub packets : handed_out calls ≡ to_come a kept octets

-- No row of the table claims a reading before the frame that told it arrived, in that run.
pub record NoneEarly (table : List ℕ) (a : Receiver) (kept octets : List ℕ) : Type 0 where
  pub run : Calls a kept octets
  pub rows : (place : ℕ) (row : Row) → get_elem? (rows_of table) place ≡ some row → NotBefore table run.calls row

-- IF THE VERDICT WRITTEN IS THAT THE TABLE PASSES, NO ROW'S CLAIM IS EARLIER THAN THE ARRIVAL OF THE FRAME THAT TOLD IT.
abbrev pub PassesNeverEarly : Type 0
PassesNeverEarly = (a : Receiver) (kept : List ℕ) (c : Readings a kept) → Checked c Passes
    → (table : List ℕ) → AsRead (first_read c) (rows_read c) table → NoneEarly table a kept (input_read c)
