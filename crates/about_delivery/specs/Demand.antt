-- 7. DEMAND 3, the top statement.
use Rattle.std.specs.Prelude.{ℕ, ◌+◌, ◌≤◌, ◌<◌, ◌≡◌, List, map, length}
use Rattle.frame.specs.Limits.{longest_time}
use Rattle.rules.specs.Limits.{virtual_channels, last_number}
use Rattle.session.specs.declared.Opened.{Opened}
use Rattle.session.specs.Open.{Opens}
use Rattle.sender.specs.Sender.{Framed, Sender}
use Rattle.about_delivery.specs.Link.{Passing, Strays, arriving, fates}
use Rattle.about_delivery.specs.Expected.{FewLost}
use Rattle.about_delivery.specs.Delivered.{Delivered}
use Rattle.about_delivery.specs.Run.{Call, Runs, Room, offer_of, reports_of}

pub record Reception : Type 0 where
  -- Let a sender by the rules cut packets of 16 to 251 octets into frames, all of one time size.
  pub t : ℕ
  pub frames : List Framed
  pub sender : Sender t frames
  -- The link may lose frames but not alter, repeat or reorder them; between them may come stretches that are refused.
  pub link : List Passing
  pub strays : Strays t link
  -- One fresh session of the right time size, as `Session::open` promises it, under any last arrival number used (0: a fresh one).
  pub time_size : t ≤ longest_time
  pub last : ℕ
  pub opened : Opened
  pub opens : Opens t last opened
  -- The session is offered the rest: the octets that the frame writer gives, each by a call that does what `Session::step` promises.
  pub calls : List Call
  pub offers : map offer_of calls ≡ arriving t link frames
  pub runs : Runs opened.session calls
  -- With numbers and room to spare.
  pub numbers : last + length (arriving t link frames) ≤ last_number
  pub room : Room calls

-- On each of the eight channels, if the link loses at most 255 of that channel's frames between two arrivals on it, what is read from the
-- lent octets and lists and from the answers is what is expected: exactly the packets for which every frame of the channel from first
-- octet to last arrived, unchanged, in order and once each, with the arrival numbers of the frames that held the first octet and the
-- last; and how many of the channel's frames were lost since the arrival before.
abbrev pub Demand3 : Type 0
Demand3 = (r : Reception) (v : ℕ) (l : v < virtual_channels) → FewLost (fates v r.last r.link r.frames)
    → Delivered (r.sender.streams v l).packets (fates v r.last r.link r.frames) (reports_of v r.calls)
