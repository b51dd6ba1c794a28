-- What the octets of a recording or a stream leave of an image, of the counts of what is refused, and of the images of which other lines
-- came.
use Rattle.std.specs.Prelude.{ℕ, ◌≡◌, List, [], ◌∷◌, ◌++◌, Bool, true, false, take, Ok, Err}
use Rattle.octets.specs.Pick.{pick}
use Rattle.answer.specs.Told.{Told}
use Rattle.rules.specs.Channel.{Handed}
use Rattle.source.specs.Found.{Item, opens, offers, found_in}
use Rattle.session.specs.Open.{opening}
use Rattle.session.specs.Lent.{Lent}
use Rattle.session.specs.Statements.{offered}
use Rattle.session.specs.declared.Accepted.{Accepted}
use Rattle.session.specs.declared.Session.{Session}
use Rattle.receiver.specs.Receive.{Tells, missing, bad, over, opened, nothing, answered}
use Rattle.receiver.specs.Receive.{received as receipt}
use Rattle.receiver.specs.Run.{roomy, handed_in}
use Rattle.receiver.specs.declared.Receiver.{Receiver}
use Rattle.telling.specs.Counts.{counted}
use Rattle.feed.specs.Pull.{hand_of, Pulls}
use Rattle.feed.specs.declared.Pull.{Pull}
use Rattle.feed.specs.declared.Pull.TheVariants as pull
use Rattle.picture_frame.specs.Received.{Received, received, leaving, all_placed, packets_in}
use Rattle.picture_run.specs.declared.State.{State}

-- An image with its line numbers, the packets refused and the images of which other lines came; and how many frames were refused, by the
-- refusal's number.
pub record Gathered : Type 0 where
  pub received : Received
  pub frames : List ℕ

abbrev pub gathered : List ℕ → List ℕ → List ℕ → List ℕ → List ℕ → Gathered
gathered pixels lines packets images frames = record { received = received pixels lines packets images; frames = frames }

-- ---- of all octets

-- Packets handed out, each placed under the arrival number of the frame that told it.
abbrev pub handed_placed : ℕ → Received → List Handed → Received
handed_placed wanted r [] = r
handed_placed wanted r (p ∷ ps) = handed_placed wanted (leaving p.packet p.arrival wanted r) ps

-- What a session tells of what it was offered: the packets are placed, a refusal is counted.
abbrev pub with_step : ℕ → Told Accepted → List Handed → Gathered → Gathered
with_step wanted t ps g = record {
  received = handed_placed wanted g.received ps;
  frames = pick t.accepted g.frames (counted g.frames t.refusal);
}

-- All that a source tells, one after another, s being offered it until t is told.
abbrev pub with_items : ℕ → Session → List Item → Gathered → Gathered
with_items wanted s [] g = g
with_items wanted s (opens t ∷ xs) g = with_items wanted (opening t 0).session xs g
with_items wanted s (offers x ∷ xs) g =
    with_items wanted (offered s x roomy).session xs (with_step wanted (offered s x roomy).answer (offered s x roomy).packets g)

-- What g comes to with all that a receiver that keeps these octets finds in w.
abbrev pub with_octets : ℕ → Receiver → List ℕ → List ℕ → Gathered → Gathered
with_octets wanted a kept w g = with_items wanted a.session (found_in a.source kept w).items g

-- ---- of one turn

-- By what a call of a receiver tells.
abbrev pub with_tells : ℕ → Tells → List Handed → Gathered → Gathered
with_tells wanted (missing n) ps g = g
with_tells wanted bad ps g = g
with_tells wanted over ps g = g
with_tells wanted opened ps g = g
with_tells wanted nothing ps g = g
with_tells wanted (answered t) ps g = with_step wanted t ps g

-- By what was pulled: the packets of an accepted frame, end to end at the start of octets by their lengths, are placed.
abbrev pub pull_placed : ℕ → Pull → List ℕ → List ℕ → Received → Received
pull_placed wanted pull.More octets lengths r = r
pull_placed wanted pull.Opened octets lengths r = r
pull_placed wanted (pull.Answered (Ok a)) octets lengths r =
    all_placed a.arrival wanted r (packets_in octets 0 (take a.packets lengths))
pull_placed wanted (pull.Answered (Err x)) octets lengths r = r
pull_placed wanted pull.Bad octets lengths r = r
pull_placed wanted pull.End octets lengths r = r
pull_placed wanted pull.Cut octets lengths r = r
pull_placed wanted pull.Failed octets lengths r = r

-- And the refusal of a frame is counted.
abbrev pub pull_counted : Pull → List ℕ → List ℕ
pull_counted pull.More frames = frames
pull_counted pull.Opened frames = frames
pull_counted (pull.Answered (Ok a)) frames = frames
pull_counted (pull.Answered (Err r)) frames = counted frames r.number
pull_counted pull.Bad frames = frames
pull_counted pull.End frames = frames
pull_counted pull.Cut frames = frames
pull_counted pull.Failed frames = frames

abbrev pub with_pull : ℕ → Pull → List ℕ → List ℕ → Gathered → Gathered
with_pull wanted p octets lengths g =
    record { received = pull_placed wanted p octets lengths g.received; frames = pull_counted p g.frames }

-- Whether more may come.
abbrev pub goes_on : Pull → Bool
goes_on pull.More = true
goes_on pull.Opened = true
goes_on (pull.Answered a) = true
goes_on pull.Bad = false
goes_on pull.End = false
goes_on pull.Cut = false
goes_on pull.Failed = false

-- Whether the recording is bad.
abbrev pub found_bad : Pull → Bool
found_bad pull.More = false
found_bad pull.Opened = false
found_bad (pull.Answered a) = false
found_bad pull.Bad = true
found_bad pull.End = false
found_bad pull.Cut = true
found_bad pull.Failed = false

-- The octets at hand.
abbrev pub at_hand : State → List ℕ → List ℕ
at_hand s input = hand_of s.feed input

-- The contract of a turn.
pub record Turned (wanted : ℕ) (s : State) (input kept : List ℕ) (l : Lent) (g : Gathered) (r : State) (input' kept' : List ℕ) (l' : Lent)
    (g' : Gathered) : Type 0 where
  -- It is a call of the feed, and what that told says whether the run goes on.
  pub pulled : Pull
  pub pulls : Pulls s.feed input s.receiver kept l
      (record { feed = r.feed; receiver = r.receiver; pull = pulled; read = r.read }) input' kept' l'
  pub going : r.going ≡ goes_on pulled
  pub bad : r.bad ≡ found_bad pulled
  -- What is gathered then is by what the receiver told.
  pub gathers :
      let told = receipt s.receiver kept (at_hand s input) l in
      g' ≡ with_tells wanted told.tells told.packets g
  -- Whatever comes behind the piece that was read, the whole comes to the same from here on as from there on.
  pub goes : (p : List ℕ) → with_octets wanted s.receiver kept (at_hand s input ++ (pulls.piece ++ p)) g
      ≡ with_octets wanted r.receiver kept' (at_hand r input' ++ p) g'
  -- Where the run ends all is gathered that the octets at hand make, and no more came, unless a read failed.
  pub ends : r.going ≡ false → g' ≡ with_octets wanted s.receiver kept (at_hand s input) g
  pub none : r.going ≡ false → r.read.failed ≡ false → pulls.piece ≡ []
  pub fails : r.read.failed ≡ true → r.going ≡ false

-- ---- what is placed is what is handed out

-- Of all that a source tells, the image, the packets' refusals and the images noted are those of the packets that the receiver hands out.
abbrev pub PlacesHanded : Type 0
PlacesHanded =
    (wanted : ℕ) (s : Session) (xs : List Item) (g : Gathered)
    → (with_items wanted s xs g).received ≡ handed_placed wanted g.received (handed_in s xs)
