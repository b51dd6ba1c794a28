-- 10. Corners of demand 3 on one channel: packets, choices and a link, worked out on both sides.
use Rattle.std.specs.Prelude.{ℕ, zero, suc, ◌≡◌, List, [], ◌∷◌, ◌++◌, replicate, Some, None}
use Rattle.rules.specs.Channel.{Piece, fresh}
use Rattle.rules.specs.BothSides.{packet_of, out}
use Rattle.sender.specs.Stream.{Choice, raw, next, frames_by}
use Rattle.about_delivery.specs.Link.{Fate, lost, got}
use Rattle.about_delivery.specs.Expected.{expected, LostAt, lost_at}
use Rattle.about_delivery.specs.Delivered.{handed, losses, Delivered}
use Rattle.about_delivery.specs.Channels.{offered, run}

-- 0 loses a frame, another number is its arrival number.
abbrev pub fate : ℕ → Piece → Fate
fate zero f = lost f
fate (suc a) f = got (suc a) f

abbrev pub linked : List ℕ → List Piece → List Fate
linked [] fs = []
linked (a ∷ numbers) [] = []
linked (a ∷ numbers) (f ∷ fs) = fate a f ∷ linked numbers fs

-- Packets cut by choices from a first count on, with the link's numbers.
abbrev pub sent_by : ℕ → List (List ℕ) → List Choice → List ℕ → List Fate
sent_by count ps choices numbers = linked numbers (frames_by ps 0 count choices)

abbrev pub two : List (List ℕ)
two = packet_of 16 1 ∷ packet_of 30 2 ∷ []

abbrev pub loss : ℕ → ℕ → LostAt
loss a n = lost_at a (Some n)

-- At the first arrival.
abbrev pub at_first : ℕ → LostAt
at_first a = lost_at a None

-- An empty frame is lost inside the first packet.
abbrev pub gap : List Fate
gap = sent_by 255 two (next 10 ∷ next 0 ∷ next 30 ∷ next 6 ∷ []) (1 ∷ 0 ∷ 2 ∷ 3 ∷ [])

-- A raw frame arrives inside the first packet, another is lost inside the second.
abbrev pub raws : List Fate
raws = sent_by 255 two (next 10 ∷ raw (9 ∷ 9 ∷ []) ∷ next 20 ∷ raw (9 ∷ []) ∷ next 16 ∷ []) (1 ∷ 2 ∷ 3 ∷ 0 ∷ 4 ∷ [])

-- 255 empty frames are lost inside the first packet; and 256.
abbrev pub many_empty : ℕ → List Choice
many_empty n = next 10 ∷ replicate n (next 0) ++ next 30 ∷ next 6 ∷ []

abbrev pub many : ℕ → List Fate
many n = sent_by 3 two (many_empty n) (1 ∷ replicate n 0 ++ 2 ∷ 3 ∷ [])

-- The first packet ends with its frame; the second's header is split over frames of 3, 1 and 2 octets; the last frame takes what is left.
abbrev pub split : List Fate
split = sent_by 0 two (next 16 ∷ next 3 ∷ next 1 ∷ next 2 ∷ next 251 ∷ []) (1 ∷ 2 ∷ 3 ∷ 4 ∷ 5 ∷ [])

-- The channel's first frame is lost, and the stream ends inside the second packet.
abbrev pub ends : List Fate
ends = sent_by 0 two (next 3 ∷ next 20 ∷ next 3 ∷ []) (0 ∷ 1 ∷ 2 ∷ [])

pub record Corners : Type 0 where
  pub gap-right : Delivered two gap (run fresh (offered gap))
  pub gap-packets : expected two gap ≡ out 2 3 (packet_of 30 2) ∷ []
  pub gap-losses : losses (run fresh (offered gap)) ≡ at_first 1 ∷ loss 2 1 ∷ loss 3 0 ∷ []
  pub raws-right : Delivered two raws (run fresh (offered raws))
  pub raws-packets : expected two raws ≡ out 1 3 (packet_of 16 1) ∷ []
  pub many-right : Delivered two (many 255) (run fresh (offered (many 255)))
  pub many-packets : expected two (many 255) ≡ out 2 3 (packet_of 30 2) ∷ []
  pub many-losses : losses (run fresh (offered (many 255))) ≡ at_first 1 ∷ loss 2 255 ∷ loss 3 0 ∷ []
  pub split-right : Delivered two split (run fresh (offered split))
  pub split-packets : expected two split ≡ out 1 1 (packet_of 16 1) ∷ out 2 5 (packet_of 30 2) ∷ []
  pub ends-right : Delivered two ends (run fresh (offered ends))
  pub ends-packets : expected two ends ≡ []
  -- 255 is sharp: with 256 lost, a packet is handed out although its frames did not all arrive.
  pub too_many : handed (run fresh (offered (many 256))) ≡ out 1 2 (packet_of 16 1) ∷ out 2 3 (packet_of 30 2) ∷ []
  pub too_many_expected : expected two (many 256) ≡ out 2 3 (packet_of 30 2) ∷ []
