-- The text of the readings by the input's octets: the lines of all packets that the session hands out of them, in their order, each with
-- its own packet's first and last number, its frame's channel, and its number among all.
use Rattle.std.specs.Prelude.{ℕ, suc, ◌<◌, ◌^◌, ◌≡◌, List, [], ◌∷◌, ◌++◌, length}
use Rattle.octets.specs.Pick.{pick}
use Rattle.answer.specs.Told.{Told}
use Rattle.rules.specs.Channel.{Handed}
use Rattle.source.specs.Found.{Item, opens, offers, found_in}
use Rattle.source.specs.Scan.{Waits}
use Rattle.session.specs.Open.{opening}
use Rattle.session.specs.Lent.{Lent, Enough}
use Rattle.session.specs.Statements.{offered}
use Rattle.session.specs.declared.Accepted.{Accepted}
use Rattle.session.specs.declared.Session.{Session}
use Rattle.receiver.specs.Run.{roomy}
use Rattle.receiver.specs.declared.Receiver.{Receiver}
use Rattle.telling.specs.Counts.{counted}
use Rattle.readings_lines.specs.Lines.{Added, adding}
use Rattle.readings_frame.specs.Readings.{Layouts, handed_as, packet_adds, numbered}
use Rattle.readings_frame.specs.Readings.{Handed as Reading}
use Rattle.readings_turn.specs.Turns.{Run}

-- A packet as the session handed it out.
abbrev pub as_handed : ℕ → ℕ → Handed → Reading
as_handed channel number h = handed_as h.packet h.first h.arrival channel number

-- A text, and what is added behind it.
abbrev pub behind : List ℕ → Added → Added
behind text a = adding (text ++ a.text) a.counts

-- The packets that one call hands out on a channel, i of its packets being before them.
abbrev pub handed_add : Layouts → ℕ → ℕ → ℕ → List ℕ → List Handed → Added
handed_add l channel packets i counts [] = adding [] counts
handed_add l channel packets i counts (h ∷ hs) =
    behind (packet_adds l (as_handed channel (numbered packets (suc i)) h) counts).text
    (handed_add l channel packets (suc i) (packet_adds l (as_handed channel (numbered packets (suc i)) h) counts).counts hs)

-- What a call of the session adds: its packets, or its refusal is counted.
abbrev pub step_adds : Layouts → Told Accepted → List Handed → ℕ → List ℕ → Added
step_adds l t hs packets counts =
    pick t.accepted (handed_add l t.fields.channel packets 0 counts hs) (adding [] (counted counts t.refusal))

-- All that a source tells, one after another, s being offered it until t is told.
abbrev pub items_add : Layouts → Session → ℕ → List ℕ → List Item → Added
items_add l s packets counts [] = adding [] counts
items_add l s packets counts (opens t ∷ xs) = items_add l (opening t 0).session packets counts xs
items_add l s packets counts (offers x ∷ xs) =
    behind (step_adds l (offered s x roomy).answer (offered s x roomy).packets packets counts).text
    (items_add l (offered s x roomy).session (numbered packets (length (offered s x roomy).packets))
    (step_adds l (offered s x roomy).answer (offered s x roomy).packets packets counts).counts xs)

-- All that is still to be added by a receiver that keeps these octets, with w at hand.
abbrev pub to_add : Layouts → Receiver → List ℕ → List ℕ → ℕ → List ℕ → Added
to_add l a kept w packets counts = items_add l a.session packets counts (found_in a.source kept w).items

-- Whatever pieces the octets came in:
pub record RunsAreListed : Type 0 where
  -- the text and the counts so far are the first part of what the octets make, whatever comes;
  pub first : {l : Layouts} {a₀ : Receiver} {kept₀ counts₀ : List ℕ} {packets₀ : ℕ} {t₀ : Lent} {octets text counts : List ℕ}
      {packets : ℕ} {a : Receiver} {kept w : List ℕ} {t : Lent}
      → Run l a₀ kept₀ counts₀ packets₀ t₀ octets text counts packets a kept w t → Enough t₀ → packets₀ < 2 ^ 64 → (p : List ℕ)
      → to_add l a₀ kept₀ (octets ++ p) packets₀ counts₀ ≡ behind text (to_add l a kept (w ++ p) packets counts)
  -- when a call tells that octets are missing, they are all of it.
  pub prompt : {l : Layouts} {a₀ : Receiver} {kept₀ counts₀ : List ℕ} {packets₀ : ℕ} {t₀ : Lent} {octets text counts : List ℕ}
      {packets : ℕ} {a : Receiver} {kept w : List ℕ} {t : Lent}
      → Run l a₀ kept₀ counts₀ packets₀ t₀ octets text counts packets a kept w t → Enough t₀ → packets₀ < 2 ^ 64 → (n : ℕ)
      → Waits a.source kept w n
      → adding text counts ≡ to_add l a₀ kept₀ octets packets₀ counts₀
