-- What every step keeps to, whoever sent the frame.
use Rattle.std.specs.Prelude.{ℕ, ◌≤◌, ◌≡◌, List, [], ◌∷◌, ◌++◌, Bool, true, false, not, ◌&&◌, ◌||◌, length, take, leb, ltb}
use Rattle.rules.specs.Limits.{most_held, most_data, most_packets, most_octets, most_headers}
use Rattle.rules.specs.Channel.{Piece, Handed, allowed, length_in, standing, unfinished, Channel, fresh, Answer, step}
use Rattle.rules.specs.Packets.{AllGood, joined, bare}

-- Refusal 4, of one channel that holds n octets, the first of `octets`: above 250, or any while out of step, or six or more whose
-- packet's length is outside 16 to 251 or not above the number held.
unfoldable pub held_wrong : Bool → ℕ → List ℕ → Bool
held_wrong in_step n octets =
    ltb most_held n
    || (not in_step && ltb 0 n)
    || (leb 6 n && (not (allowed (length_in octets)) || leb (length_in octets) n))

-- In step, what is held is the beginning of a packet; out of step, nothing is held.
abbrev pub Sound : Bool → List ℕ → Type 0
Sound true held = standing held ≡ unfinished
Sound false held = held ≡ []

-- A channel that holds the first n of these octets is sound exactly if refusal 4 does not hold of it.
abbrev pub PassingSound : Type 0
PassingSound = (in_step : Bool) (n : ℕ) (octets : List ℕ) → held_wrong in_step n octets ≡ false → Sound in_step (take n octets)

abbrev pub SoundPassing : Type 0
SoundPassing = (in_step : Bool) (held behind : List ℕ) → Sound in_step held → held_wrong in_step (length held) (held ++ behind) ≡ false

abbrev pub FreshSound : Type 0
FreshSound = Sound fresh.in_step fresh.held.octets

-- After a step the channel is sound and holds at most 250 octets; what is handed out are packets of 16 to 251 octets that say their
-- own length, at most 16 of them and at most 501 octets; and at most 17 headers were completed.
pub record Bounded (a : Answer) : Type 0 where
  pub sound : Sound a.next.in_step a.next.held.octets
  pub held : length a.next.held.octets ≤ most_held
  pub good : AllGood (bare a.packets)
  pub packets : length (bare a.packets) ≤ most_packets
  pub octets : length (joined (bare a.packets)) ≤ most_octets
  pub headers : a.headers ≤ most_headers

abbrev pub StepBounded : Type 0
StepBounded = (a : ℕ) (c : Channel) (f : Piece) → Sound c.in_step c.held.octets → length f.octets ≤ most_data → Bounded (step a c f)

-- Every packet handed out carries the arrival number of the frame.
abbrev pub Under : ℕ → List Handed → Type 0
Under a [] = Unit {0}
Under a (p ∷ ps) = (p.arrival ≡ a) × Under a ps

abbrev pub StepArrivals : Type 0
StepArrivals = (a : ℕ) (c : Channel) (f : Piece) → Under a (step a c f).packets

-- With nothing held the first number is 0.
abbrev pub StepFirst : Type 0
StepFirst = (a : ℕ) (c : Channel) (f : Piece) → (step a c f).next.held.octets ≡ [] → (step a c f).next.held.first ≡ 0
