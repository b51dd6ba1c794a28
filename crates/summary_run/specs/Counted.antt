-- What the octets of a recording or a stream add up to, and what one turn adds.
use Rattle.std.specs.Prelude.{ℕ, ◌≡◌, List, [], ◌∷◌, ◌++◌, Bool, true, false, ◌||◌}
use Rattle.octets.specs.Pick.{pick}
use Rattle.answer.specs.Told.{Told}
use Rattle.rules.specs.Channel.{Handed}
use Rattle.rules.specs.Packets.{bare}
use Rattle.recording.specs.declared.Reader.{Reader}
use Rattle.recording.specs.declared.Reader.TheVariants as reader
use Rattle.source.specs.Found.{Item, opens, offers, Found, found_in}
use Rattle.source.specs.declared.Source.{Source}
use Rattle.source.specs.declared.Source.TheVariants as source
use Rattle.session.specs.Open.{opening}
use Rattle.session.specs.Lent.{Lent}
use Rattle.session.specs.Statements.{offered}
use Rattle.session.specs.declared.Accepted.{Accepted}
use Rattle.session.specs.declared.Session.{Session}
use Rattle.receiver.specs.Receive.{Tells, missing, bad, over, opened, nothing, answered}
use Rattle.receiver.specs.Receive.{received as receipt}
use Rattle.receiver.specs.Run.{roomy}
use Rattle.receiver.specs.declared.Receiver.{Receiver}
use Rattle.feed.specs.Pull.{hand_of, Pulls}
use Rattle.feed.specs.declared.Pull.{Pull}
use Rattle.feed.specs.declared.Pull.TheVariants as pull
use Rattle.summary_count.specs.Count.{Ledger, all_counted, accepted_counted, refused_counted, answer_counted}
use Rattle.summary_run.specs.declared.State.{State}

-- ---- of all octets

-- What a session tells of what it was offered: the frame is counted by its answer, and then the packets that were handed out with it.
abbrev pub with_step : Told Accepted → List Handed → Ledger → Ledger
with_step t ps g = all_counted (bare ps) (pick t.accepted (accepted_counted t.fields g) (refused_counted t.refusal g))

-- All that a source tells, one after another, s being offered it until t is told.
abbrev pub with_items : Session → List Item → Ledger → Ledger
with_items s [] g = g
with_items s (opens t ∷ xs) g = with_items (opening t 0).session xs g
with_items s (offers x ∷ xs) g =
    with_items (offered s x roomy).session xs (with_step (offered s x roomy).answer (offered s x roomy).packets g)

-- What g comes to with all that a receiver that keeps these octets finds in w.
abbrev pub with_octets : Receiver → List ℕ → List ℕ → Ledger → Ledger
with_octets a kept w g = with_items a.session (found_in a.source kept w).items g

-- Whether a source was found bad before: then it tells no more. A fresh one was not.
abbrev pub reader_was_bad : Reader → Bool
reader_was_bad reader.Settings = false
reader_was_bad reader.Count = false
reader_was_bad (reader.Frames n) = false
reader_was_bad reader.Bad = true

abbrev pub was_bad : Source → Bool
was_bad (source.Recording a) = reader_was_bad a
was_bad (source.Kiss a) = false
was_bad (source.Bits a) = false

-- Whether what is found is bad, or is bad if the input ends there.
abbrev pub is_bad : Found → Bool
is_bad f = f.bad || f.cut

-- Whether w is a bad recording, if the input ends with it, for a receiver that keeps these octets.
abbrev pub bad_in : Receiver → List ℕ → List ℕ → Bool
bad_in a kept w = was_bad a.source || is_bad (found_in a.source kept w)

-- ---- of one turn

-- By what a call of a receiver tells.
abbrev pub with_tells : Tells → List Handed → Ledger → Ledger
with_tells (missing n) ps g = g
with_tells bad ps g = g
with_tells over ps g = g
with_tells opened ps g = g
with_tells nothing ps g = g
with_tells (answered t) ps g = with_step t ps g

-- By what was pulled, with the packets end to end at the start of octets, by their lengths.
abbrev pub with_pull : Pull → List ℕ → List ℕ → Ledger → Ledger
with_pull pull.More octets lengths g = g
with_pull pull.Opened octets lengths g = g
with_pull (pull.Answered a) octets lengths g = answer_counted a octets lengths g
with_pull pull.Bad octets lengths g = g
with_pull pull.End octets lengths g = g
with_pull pull.Cut octets lengths g = g
with_pull pull.Failed octets lengths g = g

-- Whether more may come.
abbrev pub goes_on : Pull → Bool
goes_on pull.More = true
goes_on pull.Opened = true
goes_on (pull.Answered a) = true
goes_on pull.Bad = false
goes_on pull.End = false
goes_on pull.Cut = false
goes_on pull.Failed = false

-- Whether the recording is bad.
abbrev pub found_bad : Pull → Bool
found_bad pull.More = false
found_bad pull.Opened = false
found_bad (pull.Answered a) = false
found_bad pull.Bad = true
found_bad pull.End = false
found_bad pull.Cut = true
found_bad pull.Failed = false

-- What was heeded: whether the run goes on, and what is counted then.
pub record Heeds (p : Pull) (octets lengths : List ℕ) (g : Ledger) (going : Bool) (g' : Ledger) : Type 0 where
  pub goes : going ≡ goes_on p
  pub counts : g' ≡ with_pull p octets lengths g

-- The octets at hand.
abbrev pub at_hand : State → List ℕ → List ℕ
at_hand s input = hand_of s.feed input

-- The contract of a turn.
pub record Turned (s : State) (input kept : List ℕ) (l : Lent) (g : Ledger) (r : State) (input' kept' : List ℕ) (l' : Lent) (g' : Ledger)
    : Type 0 where
  -- It is a call of the feed, and what that told says whether the run goes on.
  pub pulled : Pull
  pub pulls : Pulls s.feed input s.receiver kept l
      (record { feed = r.feed; receiver = r.receiver; pull = pulled; read = r.read }) input' kept' l'
  pub going : r.going ≡ goes_on pulled
  pub bad : r.bad ≡ found_bad pulled
  -- What is counted then is by what the receiver told.
  pub counts : g' ≡ with_tells (receipt s.receiver kept (at_hand s input) l).tells
      (receipt s.receiver kept (at_hand s input) l).packets g
  -- Whatever comes behind the piece that was read, the whole comes to the same from here on as from there on.
  pub goes : (p : List ℕ) → with_octets s.receiver kept (at_hand s input ++ (pulls.piece ++ p)) g
      ≡ with_octets r.receiver kept' (at_hand r input' ++ p) g'
  pub judges : r.going ≡ true → (p : List ℕ) → bad_in s.receiver kept (at_hand s input ++ (pulls.piece ++ p))
      ≡ bad_in r.receiver kept' (at_hand r input' ++ p)
  -- Where the run ends all is counted that the octets at hand make; unless a read failed no more came, and the recording is bad as it was
  -- found.
  pub ends : r.going ≡ false → g' ≡ with_octets s.receiver kept (at_hand s input) g
  pub none : r.going ≡ false → r.read.failed ≡ false → pulls.piece ≡ []
  pub judged : r.going ≡ false → r.read.failed ≡ false → r.bad ≡ bad_in s.receiver kept (at_hand s input)
  pub fails : r.read.failed ≡ true → r.going ≡ false
