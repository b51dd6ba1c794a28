-- What the crate's private functions promise.
use Rattle.std.specs.Prelude.{ℕ, ◌+◌, ◌≤◌, ◌<◌, ◌≡◌, List, [], ◌++◌, map, Bool, ◌&&◌, length, take, drop}
use Rattle.octets.specs.Parts.{written}
use Rattle.frame.specs.declared.Frame.{Frame}
use Rattle.rules.specs.Channel.{Piece, held_of, begun_in, cleared, holding, feed, Work, Answer}
use Rattle.rules.specs.Packets.{joined}
use Rattle.rules.specs.Cutting.{cut_of, firsts_of, first_behind}
use Rattle.session.specs.Channel.{channel_of, stored}
use Rattle.session.specs.Lent.{Lent, laid}
use Rattle.session.specs.Asked.{Left}
use Rattle.session.specs.Answers.{StepAnswer}
use Rattle.session.specs.Step.{Steps}
use Rattle.session.specs.declared.Session.{Session}
use Rattle.session.specs.declared.cutting.Found.{Found}
use Rattle.session.specs.declared.channels.Followed.{Followed}
use Rattle.session.specs.declared.channels.Head.{Head}
use Rattle.session.specs.declared.channels.Heeded.{Heeded}

-- Rule 5 on held and xs, of frame a, end to end, begun in frame f: the packets are their front, and the rest is held or dropped; their
-- lengths and first numbers are in the lent lists.
pub record Cuts (f a : ℕ) (held xs : List ℕ) (r : Found) (lengths₀ firsts₀ lengths₁ firsts₁ : List ℕ) : Type 0 where
  pub packets : r.packets ≡ length (cut_of (held ++ xs)).packets
  pub front : joined (cut_of (held ++ xs)).packets ≡ take r.octets (held ++ xs)
  pub in_step : r.instep ≡ (cut_of (held ++ xs)).in_step
  pub rest : (cut_of (held ++ xs)).held ≡ drop r.kept (held ++ xs)
  pub kept : Left held xs r.kept
  pub within : r.octets ≤ length held + length xs
  pub past : r.octets < length held → r.octets ≡ 0
  pub first : r.first ≡ first_behind f a r.packets
  pub headers : r.headers ≡ (cut_of (held ++ xs)).headers
  pub few : r.headers ≤ r.packets + 1
  pub lengths : lengths₁ ≡ written (map length (cut_of (held ++ xs)).packets) lengths₀
  pub firsts : firsts₁ ≡ written (firsts_of f a r.packets) firsts₀

-- Rule 5's work, in step only if b.
abbrev pub in_step_if : Bool → Work → Work
in_step_if b w = record { in_step = b && w.in_step; held = w.held; packets = w.packets; headers = w.headers }

-- A channel after a frame with this count, and what is handed out, by the rules' work.
pub record Follows (count : ℕ) (w : Work) (r : Followed) (l l' : Lent) : Type 0 where
  pub channel : r.channel ≡ stored (channel_of count w.in_step (cleared w.held))
  pub packets : r.packets ≡ length w.packets
  pub headers : r.headers ≡ w.headers
  pub leaves : l' ≡ laid w.packets l

-- Rule 5 on held, begun in frame `first`, and the data xs of a frame: whatever number is kept with the held octets, if that is the frame;
-- so many headers were completed in what was dropped.
abbrev pub Takes : Head → Bool → ℕ → ℕ → List ℕ → List ℕ → Followed → Lent → Lent → Type 0
Takes head b dropped first held xs r l l' =
    (g : ℕ) → first ≡ begun_in head.arrival g (length held)
    → Follows head.count.0 (in_step_if b (feed head.arrival (holding (held_of g held) [] dropped) xs)) r l l'

-- What of a frame with that arrival number the rules read beside its data.
abbrev pub head_of : ℕ → Frame → Head
head_of arrival f = record { arrival = arrival; count = f.count; pointer = f.pointer }

-- What of a frame the rules read, by its head and its data.
abbrev pub headed : Head → List ℕ → Piece
headed head xs = record { count = head.count.0; pointer = head.pointer; octets = xs }

-- The same with the loss, by what the rules answer.
pub record Heeds (a : Answer) (r : Heeded) (l l' : Lent) : Type 0 where
  pub channel : r.channel ≡ stored a.next
  pub lost : r.lost ≡ a.lost
  pub packets : r.packets ≡ length a.packets
  pub headers : r.headers ≡ a.headers
  pub leaves : l' ≡ laid a.packets l

-- A step in place: the session that is left and the answer are a step's.
abbrev pub Advances : Session → List ℕ → Lent → Session → StepAnswer → Lent → Type 0
Advances s frame l s' a l' = Steps s frame l (record { session = s'; answer = a }) l'
