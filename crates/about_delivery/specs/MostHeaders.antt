-- 14. The most headers of one frame: 16 of a sender by the rules, and 17 where rules 3 and 4 read the same octets.
use Rattle.std.specs.Prelude.{ℕ, ◌≡◌, List, [], ◌∷◌, map, take, replicate}
use Rattle.rules.specs.Channel.{Piece}
use Rattle.rules.specs.Packets.{joined}
use Rattle.rules.specs.BothSides.{packet_of, frame}
use Rattle.session.specs.declared.Opened.{Opened}
use Rattle.session.specs.Open.{Opens}
use Rattle.sender.specs.Stream.{next, frames_by}
use Rattle.sender.specs.Sender.{Framed}
use Rattle.about_delivery.specs.Link.{Passing, arrives, arriving}
use Rattle.about_delivery.specs.Delivered.{Report}
use Rattle.about_delivery.specs.Run.{Call, Runs, Room, offer_of, reports_of}
use Rattle.about_delivery.specs.Demand.{Reception}
use Rattle.about_delivery.specs.MostLost.{alone}

abbrev pub headers_of : List Report → List ℕ
headers_of rs = map (λ (r : Report). r.headers) rs

-- Sixteen packets of 16 octets.
abbrev pub many : List (List ℕ)
many = replicate 16 (packet_of 16 1)

-- Fifteen of them and a header of the next, in one frame with a time of two octets.
abbrev pub sent_pieces : List Piece
sent_pieces = frames_by many 0 3 (next 249 ∷ [])

-- Five octets of a packet, and then a frame that says that a packet starts with it.
abbrev pub torn_pieces : List Piece
torn_pieces = frame 3 0 (take 5 (packet_of 16 1)) ∷ frame 4 0 (take 249 (joined many)) ∷ []

abbrev pub torn : List Framed
torn = alone 7 torn_pieces

abbrev pub both : List Passing
both = arrives ∷ arrives ∷ []

pub record MostHeaders : Type 0 where
  pub reception : Reception
  pub sent : reception.frames ≡ alone 7 sent_pieces
  pub sixteen : headers_of (reports_of 0 reception.calls) ≡ 16 ∷ []
  -- A run of a fresh session on the other frames, by calls that do what is promised.
  pub opened : Opened
  pub opens : Opens 2 0 opened
  pub calls : List Call
  pub offers : map offer_of calls ≡ arriving 2 both torn
  pub runs : Runs opened.session calls
  pub room : Room calls
  pub seventeen : headers_of (reports_of 0 calls) ≡ 0 ∷ 17 ∷ []
