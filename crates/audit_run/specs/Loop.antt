-- The loop of the second reading: turns one after another, until one says stop.
use Rattle.std.specs.Prelude.{ℕ, ◌≡◌, Bool, List, [], ◌++◌}
use Rattle.rules.specs.Channel.{Handed}
use Rattle.session.specs.Lent.{Lent}
use Rattle.receiver.specs.declared.Receiver.{Receiver}
use Rattle.window.specs.Turns.{Turns, none, more, Loops}
use Rattle.table.specs.declared.Check.{Check}
use Rattle.audit_turns.specs.Turns.{begun, packets_of, Turned}
use Rattle.audit_turns.specs.declared.State.{State}
use Rattle.audit_run.specs.declared.Stopped.{Stopped}

-- Where the loop stands, and a turn of it, which writes nothing.
pub record Place : Type 0 where
  pub state : State
  pub input : List ℕ
  pub kept : List ℕ
  pub lent : Lent
  pub rows : List ℕ

abbrev pub going_at : Place → Bool
going_at p = p.state.going

pub record TurnedAt (p : Place) (said : List ℕ) (q : Place) : Type 0 where
  pub turned : Turned p.state p.input p.kept p.lent p.rows q.state q.input q.kept q.lent q.rows
  pub silent : said ≡ []

abbrev pub place : State → List ℕ → List ℕ → Lent → List ℕ → Place
place s input kept l rows = record { state = s; input = input; kept = kept; lent = l; rows = rows }

-- The contract of the loop, of a receiver and the check of a table.
abbrev pub Looped : Receiver → Check → List ℕ → List ℕ → Lent → List ℕ → Stopped → List ℕ → List ℕ → Lent → List ℕ → Type 0
Looped a c input kept l rows r input' kept' l' rows' =
    Loops going_at TurnedAt (place (begun a c) input kept l rows) r.made (place r.state input' kept' l' rows')

-- All that was read of the input in the turns, all that was read of the table, and all packets that the session handed out, each in order.
abbrev pub input_of : {p q : Place} {n : ℕ} {text : List ℕ} → Turns going_at TurnedAt p n text q → List ℕ
input_of none = []
input_of (more t g x) = input_of t ++ x.turned.pulls.piece

abbrev pub table_of : {p q : Place} {n : ℕ} {text : List ℕ} → Turns going_at TurnedAt p n text q → List ℕ
table_of none = []
table_of (more t g x) = table_of t ++ x.turned.more

abbrev pub packets_in : {p q : Place} {n : ℕ} {text : List ℕ} → Turns going_at TurnedAt p n text q → List Handed
packets_in none = []
packets_in (more {r = r} t g x) = packets_in t ++ packets_of r.state r.input r.kept r.lent
