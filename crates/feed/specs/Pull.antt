-- A call of a feed: a receiver goes on with the octets at hand, and a piece comes behind them if octets are missing.
use Rattle.std.specs.Prelude.{◌≡◌, ℕ, ◌+◌, ◌%◌, ◌^◌, Bool, true, List, ◌++◌, length, drop, ◌==◌}
use Rattle.octets.specs.Pick.{pick}
use Rattle.session.specs.Lent.{Lent}
use Rattle.source.specs.Found.{cut_at}
use Rattle.source.specs.declared.Source.{Source}
use Rattle.receiver.specs.Receive.{Receives}
use Rattle.receiver.specs.declared.Receiver.{Receiver}
use Rattle.receiver.specs.declared.Received.{Received}
use Rattle.receiver.specs.declared.Event.{Event}
use Rattle.receiver.specs.declared.Event.TheVariants as event
use Rattle.window.specs.Window.{hand, unread, Refills}
use Rattle.window.specs.declared.Refilled.{Refilled}
use Rattle.feed.specs.declared.Feed.{Feed}
use Rattle.feed.specs.declared.Pull.{Pull}
use Rattle.feed.specs.declared.Pull.TheVariants as pull
use Rattle.feed.specs.declared.Pulled.{Pulled}
use Rattle.feed.specs.declared.Told.{Told}

abbrev pub fresh : Feed
fresh = record { at = 0; end = 0; passed = 0 }

-- The octets at hand.
abbrev pub hand_of : Feed → List ℕ → List ℕ
hand_of f input = hand input f.at f.end

-- If octets are missing: a read failed; some came; none came, where the input may end or not.
unfoldable pub at_end : Source → Bool → ℕ → Pull
at_end s failed came = pick failed pull.Failed (pick (came == 0) (pick (cut_at s) pull.Cut pull.End) pull.More)

-- What is told by what the receiver tells, and a read that brought so many octets or failed.
abbrev pub pulled : Event → Source → Bool → ℕ → Pull
pulled (event.Missing n) s failed came = at_end s failed came
pulled event.Bad s failed came = pull.Bad
pulled event.Over s failed came = pull.Bad
pulled event.Opened s failed came = pull.Opened
pulled event.Nothing s failed came = pull.More
pulled (event.Answered a) s failed came = pull.Answered a

-- A read is made if octets are missing, and only then.
abbrev pub Missed : Event → Refilled → Type 0
Missed (event.Missing n) r = r.tried ≡ true
Missed event.Bad r = r ≡ unread
Missed event.Over r = r ≡ unread
Missed event.Opened r = r ≡ unread
Missed event.Nothing r = r ≡ unread
Missed (event.Answered a) r = r ≡ unread

-- What is told of an event by a source: the read that was made, and the piece that it brought behind the octets at hand from `from` up to
-- end; so many octets were used before them.
pub record Tells (input : List ℕ) (from end behind : ℕ) (s : Source) (e : Event) (r : Told) (input' : List ℕ) : Type 0 where
  pub piece : List ℕ
  pub window : hand_of r.feed input' ≡ hand input from end ++ piece
  pub many : length piece ≡ r.read.came
  pub only : Missed e r.read
  pub tells : r.pull ≡ pulled e s r.read.failed r.read.came
  pub passed : r.feed.passed ≡ behind

-- A read where octets are missing, as it is told: the octets at hand from `from` up to end stay, and what came stands behind them.
pub record ReadsOn (input : List ℕ) (from end behind : ℕ) (s : Source) (r : Told) (input' : List ℕ) : Type 0 where
  pub refills : Refills input from end input' r.read
  pub feed : r.feed ≡ record { at = 0; end = r.read.have; passed = behind }
  pub tells : r.pull ≡ at_end s r.read.failed r.read.came

-- The contract of a call: what the receiver received of the octets at hand, the read that was made, if octets were missing, and the piece
-- that it brought behind them. All is fixed but what the read brought, and whether it failed.
pub record Pulls (f : Feed) (input : List ℕ) (a : Receiver) (kept : List ℕ) (l : Lent) (r : Pulled) (input' kept' : List ℕ)
    (l' : Lent) : Type 0 where
  pub received : Received
  pub piece : List ℕ
  pub calls : Receives a kept (hand_of f input) l received kept' l'
  pub receiver : r.receiver ≡ received.receiver
  pub window : hand_of r.feed input' ≡ drop received.used (hand_of f input) ++ piece
  pub many : length piece ≡ r.read.came
  pub only : Missed received.event r.read
  pub tells : r.pull ≡ pulled received.event a.source r.read.failed r.read.came
  pub passed : r.feed.passed ≡ (f.passed + received.used) % 2 ^ 64
