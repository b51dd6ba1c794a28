-- Opening: refusal 2, and the fresh session.
use Rattle.std.specs.Prelude.{ℕ, ◌≡◌, false, replicate, ltb, Ok, Err}
use Rattle.octets.specs.Pick.{pick}
use Rattle.answer.specs.Told.{Told, accept, refuse, refuse_for}
use Rattle.answer.specs.Refusals.{time_length}
use Rattle.frame.specs.Limits.{longest_time}
use Rattle.rules.specs.Limits.{virtual_channels}
use Rattle.session.specs.Channel.{fresh}
use Rattle.session.specs.declared.Session.{Session}
use Rattle.session.specs.declared.Opened.{Opened}
use Rattle.session.specs.Answers.{OpenAnswer}

-- An opening's answer tells no more than whether it is accepted, and the refusal.
abbrev pub told : OpenAnswer → Told (Unit {0})
told (Ok tt) = accept tt
told (Err n) = refuse_for tt n

-- A fresh session: nothing heard yet, and the last arrival number used.
abbrev pub opened : ℕ → ℕ → Session
opened t last = record { t = t; arrival = last; master = record { 0 = 0 }; heard = false; channels = replicate virtual_channels fresh }

pub record Opening : Type 0 where
  pub session : Session
  pub answer : Told (Unit {0})

-- 2 with t above 8, and then the fresh session of t = 0.
unfoldable pub opening : ℕ → ℕ → Opening
opening t last =
    pick (ltb longest_time t) (record { session = opened 0 0; answer = refuse tt time_length })
    (record { session = opened t last; answer = accept tt })

-- The contract of opening.
pub record Opens (t last : ℕ) (r : Opened) : Type 0 where
  pub session : r.session ≡ (opening t last).session
  pub answers : told r.answer ≡ (opening t last).answer
