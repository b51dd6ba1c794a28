-- A step: what a session makes of a frame, by document 01, 'The session'.
use Rattle.std.specs.Prelude.{ℕ, ◌+◌, ◌≡◌, List, [], true, length, get_or, set, eqb, Option, Ok, Err, Some, None}
use Rattle.octets.specs.Pick.{pick}
use Rattle.answer.specs.Told.{Told, accept, refuse_at, plain}
use Rattle.answer.specs.Refusals as no
use Rattle.answer.specs.declared.Refusal.{Refusal}
use Rattle.frame.specs.Frame.{read_frame, data_of}
use Rattle.frame.specs.declared.Frame.{Frame}
use Rattle.counts.specs.Lost.{last_of, lost_since}
use Rattle.rules.specs.Limits.{last_number}
use Rattle.rules.specs.Channel.{Piece, Handed, Answer, step}
use Rattle.session.specs.Channel.{view, stored, fresh, unsound}
use Rattle.session.specs.Lent.{Lent, scant, laid}
use Rattle.session.specs.declared.Channel.{Channel}
use Rattle.session.specs.declared.Session.{Session}
use Rattle.session.specs.declared.Stepped.{Stepped}
use Rattle.session.specs.declared.Accepted.{Accepted}
use Rattle.session.specs.Answers.{StepAnswer}

-- Every field 0.
abbrev pub nothing_told : Accepted
nothing_told = record { arrival = 0; channel = 0; lost = Some 0; master = Some 0; packets = 0; headers = 0 }

abbrev pub told : StepAnswer → Told Accepted
told (Ok a) = accept a
told (Err r) = refuse_at nothing_told r.number r.octet

-- The next session, the answer, and the packets handed out.
pub record Outcome : Type 0 where
  pub session : Session
  pub answer : Told Accepted
  pub packets : List Handed

-- A refusal hands nothing out; but for a frame's address it tells no octet: it is 0.
abbrev pub refused_at : Session → ℕ → ℕ → Outcome
refused_at s n octet = record { session = s; answer = refuse_at nothing_told n octet; packets = [] }

abbrev pub refused : Session → ℕ → Outcome
refused s n = refused_at s n 0

-- Every frame offered takes the next arrival number.
abbrev pub counted : Session → Session
counted s = record { t = s.t; arrival = s.arrival + 1; master = s.master; heard = s.heard; channels = s.channels }

abbrev pub channel_at : Session → ℕ → Channel
channel_at s i = get_or s.channels i fresh

abbrev pub piece_of : Frame → List ℕ → Piece
piece_of f octets = record { count = f.count.0; pointer = f.pointer; octets = octets }

-- The rules, on the frame's channel; s has used up the arrival number.
unfoldable pub ruled : Session → Frame → List ℕ → Answer
ruled s f octets = step s.arrival (view (channel_at s f.channel)) (piece_of f octets)

-- An accepted frame with these octets of data; s has used up the arrival number. Its channel is replaced; the others stay.
unfoldable pub accepted : Session → Frame → List ℕ → Outcome
accepted s f octets =
    record {
      session = record {
        t = s.t;
        arrival = s.arrival;
        master = f.master;
        heard = true;
        channels = set s.channels f.channel (stored (ruled s f octets).next);
      };
      answer = accept
          (record {
            arrival = s.arrival;
            channel = f.channel;
            lost = (ruled s f octets).lost;
            master = lost_since (last_of s.heard s.master.0) f.master.0;
            packets = length (ruled s f octets).packets;
            headers = (ruled s f octets).headers;
          });
      packets = (ruled s f octets).packets;
    }

-- By what the frame's reader tells: accepted, or its refusal (10, 11, 120 to 123, 13 to 15) with the octet.
abbrev pub heeded : Session → List ℕ → Told Frame → Outcome
heeded s frame r = pick r.accepted (accepted s r.fields (data_of r.fields frame)) (refused_at s r.refusal r.octet)

-- ---- what is offered

-- Refusals 1, 4 and 3 in this order; 0 if none holds.
unfoldable pub barred : Session → Lent → ℕ
barred s l = pick (scant l) no.room (pick (unsound s) no.session (pick (eqb s.arrival last_number) no.arrivals 0))

-- The refusal of that number, if it is not 0.
abbrev pub refusal_if : ℕ → Option Refusal
refusal_if n = pick (eqb n 0) None (Some (plain n))

-- The gate for all that is offered: where none of them holds, o.
abbrev pub admitted : Session → Lent → Outcome → Outcome
admitted s l o = pick (eqb (barred s l) 0) o (refused s (barred s l))

-- A frame's octets: 1, 4, 3, then the frame reader's refusals.
unfoldable pub outcome : Session → List ℕ → Lent → Outcome
outcome s frame l = admitted s l (heeded (counted s) frame (read_frame s.t frame))

-- A stretch that was refused with n before any frame could be read: 1, 4, 3, then n. It uses up an arrival number.
unfoldable pub turned_away : Session → ℕ → Lent → Outcome
turned_away s n l = admitted s l (refused (counted s) n)

-- ---- the contracts

-- What is answered and left by an outcome o: l is what was lent, and l' the same afterwards.
pub record Gives (o : Outcome) (r : Stepped) (l l' : Lent) : Type 0 where
  pub session : r.session ≡ o.session
  pub answers : told r.answer ≡ o.answer
  pub leaves : l' ≡ laid o.packets l

-- Of a step, and of turning a stretch away.
abbrev pub Steps : Session → List ℕ → Lent → Stepped → Lent → Type 0
Steps s frame l r l' = Gives (outcome s frame l) r l l'

abbrev pub TurnsAway : Session → ℕ → Lent → Stepped → Lent → Type 0
TurnsAway s n l r l' = Gives (turned_away s n l) r l l'
