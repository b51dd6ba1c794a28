-- What refusals tell and leave.
use Rattle.std.specs.Prelude.{ℕ, ◌+◌, ◌<◌, ◌≡◌, List, Bool, true, false, ◌||◌, eqb, Some}
use contract.Lifetimes.{Lfts}
use denote.Triple.Clauses.{AtExit}
use borrow.Fn.Kinds.{ParamKind, ResultKind, Dens, Out, res_t, ended_of}
use Rattle.answer.specs.Refusals as no
use Rattle.frame.specs.Limits.{longest_time}
use Rattle.stretch.specs.Stretch.{Stretch, found, unread}
use Rattle.session.specs.Lent.{Lent}
use Rattle.session.specs.Open.{opening}
use Rattle.session.specs.Step.{told, Outcome, outcome, turned_away}
use Rattle.session.specs.declared.Session.{Session}
use Rattle.session.specs.declared.Accepted.{Accepted}
use Rattle.session.specs.Answers.{StepAnswer}
use Rattle.session.specs.declared.Stepped.{Stepped}

-- A refusal's answer holds its number and 0 in every other field, never unknown.
pub record AllZero (a : Accepted) : Type 0 where
  pub arrival : a.arrival ≡ 0
  pub channel : a.channel ≡ 0
  pub lost : a.lost ≡ Some 0
  pub master : a.master ≡ Some 0
  pub packets : a.packets ≡ 0
  pub headers : a.headers ≡ 0

abbrev pub RefusalsTell0 : Type 0
RefusalsTell0 = (r : StepAnswer) → (told r).accepted ≡ false → AllZero (told r).fields

-- A refused opening's session is a fresh one of t = 0: what opening gives for t = 0 with no number used.
abbrev pub RefusedFresh : Type 0
RefusedFresh = (t last : ℕ) → longest_time < t → (opening t last).session ≡ (opening 0 0).session

-- ---- what a refused call leaves

-- Refusals 1, 3 and 4: nothing that is offered is taken up.
abbrev pub nothing_taken_up : ℕ → Bool
nothing_taken_up n = eqb n no.room || eqb n no.arrivals || eqb n no.session

-- A session with another last arrival number, and all else as it was.
abbrev pub renumbered : ℕ → Session → Session
renumbered n s = record { t = s.t; arrival = n; master = s.master; heard = s.heard; channels = s.channels }

-- Of a call on the session s with l lent, whose answer is a refusal: no packets are handed out. Nothing lent changes; the session doesn't
-- either, except that all refusals but 1, 3 and 4 use up an arrival number.
pub record RefusalLeaves (s : Session) (l : Lent) (r : Stepped) (l' : Lent) : Type 0 where
  pub packets : (told r.answer).fields.packets ≡ 0
  pub lent : l' ≡ l
  pub same : nothing_taken_up (told r.answer).refusal ≡ true → r.session ≡ s
  pub next : nothing_taken_up (told r.answer).refusal ≡ false → r.session ≡ renumbered (s.arrival + 1) s

-- What every result that a contract allows of any arguments has.
abbrev pub Always : {n : ℕ} (ps : List (ParamKind n)) (r : ResultKind n) → Out n ps r → Out n ps r → Type 0
Always {n} ps r post says =
    (κs : Lfts n) (a : Dens κs ps) (x : (res_t r κs).Denot) (s : AtExit (ended_of n ps r) κs) → post κs a x s → says κs a x s

-- ---- what is offered

-- What comes of what is offered to a session, by `Session::step` or by `Session::turn_away`.
abbrev pub offered : Session → Stretch → Lent → Outcome
offered s (found x) l = outcome s x l
offered s (unread n) l = turned_away s n l
