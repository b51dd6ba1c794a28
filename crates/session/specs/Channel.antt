-- A channel as it is kept, and as the rules see it; refusal 4.
use Rattle.std.specs.Prelude.{ℕ, ◌-◌, List, [], ◌∷◌, ◌++◌, Bool, true, false, ◌||◌, length, take, replicate, ltb}
use Rattle.std.proofs.Math.Option.{Option, none, some}
use Rattle.counts.specs.Lost.{last_of}
use Rattle.frame.specs.Limits.{longest_time}
use Rattle.rules.specs.Limits.{most_held}
use Rattle.rules.specs.Channel as rules
use Rattle.rules.specs.Bounds.{held_wrong}
use Rattle.session.specs.declared.Channel.{Channel}
use Rattle.session.specs.declared.Session.{Session}

-- The channel that the rules speak of: of the array's octets, the first `length` are held.
unfoldable pub view : Channel → rules.Channel
view c =
    record {
      last = last_of c.heard c.last.0;
      in_step = c.instep;
      held = rules.held_of c.first (take c.length c.held);
    }

abbrev pub heard_of : Option ℕ → Bool
heard_of none = false
heard_of (some n) = true

abbrev pub count_of : Option ℕ → ℕ
count_of none = 0
count_of (some n) = n

-- How it is kept: the held octets, then zeros to 250; the count 0 where there is none.
unfoldable pub stored : rules.Channel → Channel
stored c =
    record {
      last = record { 0 = count_of c.last };
      heard = heard_of c.last;
      instep = c.in_step;
      first = c.held.first;
      length = length c.held.octets;
      held = c.held.octets ++ replicate (most_held - length c.held.octets) 0;
    }

-- After a frame with this count.
abbrev pub channel_of : ℕ → Bool → rules.Held → rules.Channel
channel_of count in_step held = record { last = some count; in_step = in_step; held = held }

abbrev pub fresh : Channel
fresh = stored rules.fresh

-- Refusal 4, of a channel: the length beside the array, and of the array's octets those that are held.
abbrev pub channel_unsound : Channel → Bool
channel_unsound c = held_wrong c.instep c.length c.held

abbrev pub any_unsound : List Channel → Bool
any_unsound [] = false
any_unsound (c ∷ cs) = channel_unsound c || any_unsound cs

-- Refusal 4: a session with t above 8, or with such a channel.
unfoldable pub unsound : Session → Bool
unsound s = ltb longest_time s.t || any_unsound s.channels
