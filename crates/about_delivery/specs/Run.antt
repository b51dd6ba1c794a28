-- 6. The session's run: its calls, and what is read from the lent octets, lengths and first numbers after each.
use Rattle.std.specs.Prelude.{ℕ, List, [], ◌∷◌, ◌++◌, Bool, ◌&&◌, take, eqb}
use Rattle.answer.specs.Told.{Told}
use Rattle.rules.specs.Channel.{Handed}
use Rattle.rules.specs.Packets.{cut}
use Rattle.session.specs.declared.Session.{Session}
use Rattle.session.specs.declared.Stepped.{Stepped}
use Rattle.session.specs.declared.Accepted.{Accepted}
use Rattle.session.specs.Lent.{Lent, Enough}
use Rattle.session.specs.Step.{told, Gives}
use Rattle.stretch.specs.Stretch.{Stretch}
use Rattle.session.specs.Statements.{offered}
use Rattle.sender.specs.Sender.{when}
use Rattle.about_delivery.specs.Delivered.{Report}

-- One call: what was offered, what was lent, the result, and what was lent as the call left it.
pub record Call : Type 0 where
  pub offer : Stretch
  pub lent : Lent
  pub result : Stepped
  pub left : Lent

-- Each call did what `Session::step` promises for a frame's octets (`Steps`), or `Session::turn_away` for a stretch that was refused
-- before (`TurnsAway`), on the session that the call before gave; the first on s.
abbrev pub Runs : Session → List Call → Type 0
Runs s [] = Unit {0}
Runs s (c ∷ cs) = Gives (offered s c.offer c.lent) c.result c.lent c.left × Runs c.result.session cs

-- Enough was lent to each.
abbrev pub Room : List Call → Type 0
Room [] = Unit {0}
Room (c ∷ cs) = Enough c.lent × Room cs

abbrev pub offer_of : Call → Stretch
offer_of c = c.offer

abbrev pub answer_of : Call → Told Accepted
answer_of c = told c.result.answer

-- Packets with their first numbers, under the arrival number a.
abbrev pub numbered : ℕ → List (List ℕ) → List ℕ → List Handed
numbered a [] firsts = []
numbered a (p ∷ ps) [] = []
numbered a (p ∷ ps) (f ∷ firsts) = record { first = f; arrival = a; packet = p } ∷ numbered a ps firsts

-- The n packets that were handed out under the arrival number a: in the lent octets, by the lent lengths.
abbrev pub read_out : ℕ → ℕ → Lent → List Handed
read_out a n l = numbered a (cut l.octets (take n l.lengths)) l.firsts

abbrev pub packets_of : Call → List Handed
packets_of c = read_out (answer_of c).fields.arrival (answer_of c).fields.packets c.left

-- What an accepted call says of its channel, master loss aside.
abbrev pub report_of : Call → Report
report_of c =
    record {
      arrival = (answer_of c).fields.arrival;
      lost = (answer_of c).fields.lost;
      headers = (answer_of c).fields.headers;
      packets =
          packets_of c;
    }

-- Whether a call took a frame of channel v.
abbrev pub took : ℕ → Call → Bool
took v c = (answer_of c).accepted && eqb (answer_of c).fields.channel v

-- What the run says of channel v.
abbrev pub reports_of : ℕ → List Call → List Report
reports_of v [] = []
reports_of v (c ∷ cs) = when (took v c) (report_of c) ++ reports_of v cs
