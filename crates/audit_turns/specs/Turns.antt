-- A turn of the second reading: what was read in it of the input and of the table, and what it made of that.
use Rattle.std.specs.Prelude.{ℕ, ◌≡◌, true, false, List, []}
use Rattle.rules.specs.Channel.{Handed}
use Rattle.session.specs.Lent.{Lent}
use Rattle.receiver.specs.Receive.{received}
use Rattle.receiver.specs.declared.Receiver.{Receiver}
use Rattle.window.specs.Window.{unread}
use Rattle.feed.specs.Pull.{hand_of, Pulls}
use Rattle.feed.specs.Pull.{fresh as freshFeed}
use Rattle.feed.specs.declared.Pull.{Pull}
use Rattle.feed.specs.declared.Pull.TheVariants as pull
use Rattle.feed.specs.declared.Pulled.{Pulled}
use Rattle.table.specs.declared.Check.{Check}
use Rattle.audit_rows.specs.Goes.{fresh, Going, Ending}
use Rattle.audit_rows.specs.Frame.{handed_by}
use Rattle.audit_rows.specs.declared.Audit.{Audit}
use Rattle.audit_turns.specs.declared.State.{State}
use Rattle.audit_turns.specs.declared.Heeded.{Heeded}

-- Before the first turn: nothing is read of the input, and nothing of the rows of a table under this check.
abbrev pub begun : Receiver → Check → State
begun a c = record { feed = freshFeed; receiver = a; audit = fresh c; read = unread; going = true; ended = false }

-- The second reading goes on beside these packets, `more` being what its reads brought.
pub record On (a : Audit) (rows : List ℕ) (ps : List Handed) (more : List ℕ) (r : Heeded) (rows' : List ℕ) : Type 0 where
  pub going : r.going ≡ true
  pub ended : r.ended ≡ false
  pub goes : Going a rows ps more r.audit rows'

-- With a bad recording, or where a read of the input failed, it does not: nothing is read of the rows, and they stay as they are.
pub record Off (a : Audit) (rows more : List ℕ) (r : Heeded) (rows' : List ℕ) : Type 0 where
  pub stays : r.audit ≡ a
  pub buffer : rows' ≡ rows
  pub going : r.going ≡ false
  pub ended : r.ended ≡ false
  pub none : more ≡ []

-- The input has ended: no packet was handed out.
pub record Over (a : Audit) (rows : List ℕ) (ps : List Handed) (more : List ℕ) (r : Heeded) (rows' : List ℕ) : Type 0 where
  pub none : ps ≡ []
  pub going : r.going ≡ false
  pub ended : r.ended ≡ true
  pub ends : Ending a rows more r.audit rows'

-- By what a pull at the input told, where these packets were handed out.
abbrev pub By : Audit → List ℕ → List Handed → List ℕ → Heeded → List ℕ → Pull → Type 0
By a rows ps more r rows' pull.More = On a rows ps more r rows'
By a rows ps more r rows' pull.Opened = On a rows ps more r rows'
By a rows ps more r rows' (pull.Answered x) = On a rows ps more r rows'
By a rows ps more r rows' pull.Bad = Off a rows more r rows'
By a rows ps more r rows' pull.Cut = Off a rows more r rows'
By a rows ps more r rows' pull.Failed = Off a rows more r rows'
By a rows ps more r rows' pull.End = Over a rows ps more r rows'

-- The packets that stand in what was lent, by what was told.
abbrev pub told : Pull → List ℕ → List ℕ → List Handed
told pull.More octets lengths = []
told pull.Opened octets lengths = []
told (pull.Answered x) octets lengths = handed_by x octets lengths
told pull.Bad octets lengths = []
told pull.Cut octets lengths = []
told pull.Failed octets lengths = []
told pull.End octets lengths = []

pub record Heeds (a : Audit) (rows octets lengths : List ℕ) (r : Heeded) (rows' : List ℕ) (p : Pull) : Type 0 where
  pub more : List ℕ
  pub heeds : By a rows (told p octets lengths) more r rows' p

-- A state without the input.
abbrev pub heeded : State → Heeded
heeded s = record { audit = s.audit; going = s.going; ended = s.ended }

-- The packets that the session hands out in a turn.
abbrev pub packets_of : State → List ℕ → List ℕ → Lent → List Handed
packets_of s input kept l = (received s.receiver kept (hand_of s.feed input) l).packets

-- One turn: a pull at the input, and the second reading beside the packets that the session handed out in it. `more` is what the reads of
-- the table brought.
pub record Turned (s : State) (input kept : List ℕ) (l : Lent) (rows : List ℕ) (r : State) (input' kept' : List ℕ) (l' : Lent)
    (rows' : List ℕ) : Type 0 where
  pub pulled : Pulled
  pub pulls : Pulls s.feed input s.receiver kept l pulled input' kept' l'
  pub feed : r.feed ≡ pulled.feed
  pub receiver : r.receiver ≡ pulled.receiver
  pub read : r.read ≡ pulled.read
  pub more : List ℕ
  pub heeds : By s.audit rows (packets_of s input kept l) more (heeded r) rows' pulled.pull
