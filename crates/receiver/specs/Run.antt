-- However a source's octets come in pieces, the calls hand out the packets of the whole.
use Rattle.std.specs.Prelude.{ℕ, ◌≡◌, List, [], ◌∷◌, ◌++◌, drop, replicate}
use Rattle.rules.specs.Limits.{most_packets, most_octets}
use Rattle.rules.specs.Channel.{Handed}
use Rattle.source.specs.Found.{Item, opens, offers, found_in}
use Rattle.source.specs.Scan.{Waits, Over}
use Rattle.session.specs.Open.{opening}
use Rattle.session.specs.Lent.{Lent, lent, Enough}
use Rattle.session.specs.Statements.{offered}
use Rattle.session.specs.declared.Session.{Session}
use Rattle.receiver.specs.Receive.{received, Receives}
use Rattle.receiver.specs.declared.Receiver.{Receiver}
use Rattle.receiver.specs.declared.Received.{Received}

-- What is lent to a step at least: 501 octets, 16 lengths and 16 first numbers.
unfoldable pub roomy : Lent
roomy = lent (replicate most_octets 0) (replicate most_packets 0) (replicate most_packets 0)

-- The packets that are handed out of what a source tells, s being offered it until t is told.
abbrev pub handed_in : Session → List Item → List Handed
handed_in s [] = []
handed_in s (opens t ∷ xs) = handed_in (opening t 0).session xs
handed_in s (offers x ∷ xs) = (offered s x roomy).packets ++ handed_in (offered s x roomy).session xs

-- The packets that are still to come from a receiver that keeps these octets, w being at hand.
abbrev pub to_come : Receiver → List ℕ → List ℕ → List Handed
to_come a kept w = handed_in a.session (found_in a.source kept w).items

-- A run of calls over any results that satisfy their promises: the octets read so far, the packets handed out so far, the receiver, the
-- octets kept and those at hand. A piece may come at any time, and a call may be made at any time, with any room that is enough.
pub data Run (a₀ : Receiver) (kept₀ : List ℕ) : List ℕ → List Handed → Receiver → List ℕ → List ℕ → Type 0 where
  starts : Run a₀ kept₀ [] [] a₀ kept₀ []
  reads : {octets : List ℕ} {hs : List Handed} {a : Receiver} {kept w : List ℕ} (piece : List ℕ) → Run a₀ kept₀ octets hs a kept w
      → Run a₀ kept₀ (octets ++ piece) hs a kept (w ++ piece)
  takes : {octets : List ℕ} {hs : List Handed} {a : Receiver} {kept w : List ℕ} (l l' : Lent) (r : Received) (kept' : List ℕ) → Enough l
      → Receives a kept w l r kept' l' → Run a₀ kept₀ octets hs a kept w
      → Run a₀ kept₀ octets (hs ++ (received a kept w l).packets) r.receiver kept' (drop r.used w)

pub record PiecesAreReceived : Type 0 where
  -- The packets handed out so far are the first of them, whatever comes.
  pub first : {a₀ : Receiver} {kept₀ octets : List ℕ} {hs : List Handed} {a : Receiver} {kept w : List ℕ} → Run a₀ kept₀ octets hs a kept w
      → (p : List ℕ) → to_come a₀ kept₀ (octets ++ p) ≡ hs ++ to_come a kept (w ++ p)
  -- When a call tells that octets are missing, they are all that the octets read so far make.
  pub prompt : {a₀ : Receiver} {kept₀ octets : List ℕ} {hs : List Handed} {a : Receiver} {kept w : List ℕ} (n : ℕ)
      → Run a₀ kept₀ octets hs a kept w
      → Waits a.source kept w n → hs ≡ to_come a₀ kept₀ octets
  -- When nothing comes any more, they are all that there ever are.
  pub over : {a₀ : Receiver} {kept₀ octets : List ℕ} {hs : List Handed} {a : Receiver} {kept w : List ℕ} → Run a₀ kept₀ octets hs a kept w
      → Over a.source kept → (p : List ℕ) → hs ≡ to_come a₀ kept₀ (octets ++ p)
