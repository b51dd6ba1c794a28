-- 8. One channel by itself: the frames that it is offered under their arrival numbers, and what the rules say of them.
use Rattle.std.specs.Prelude.{ℕ, ◌+◌, List, [], ◌∷◌, ◌++◌, ◌&&◌, eqb}
use Rattle.octets.specs.Pick.{pick}
use Rattle.answer.specs.Told.{Told}
use Rattle.frame.specs.declared.Frame.{Frame}
use Rattle.frame.specs.Frame.{read_frame, data_of}
use Rattle.rules.specs.Limits.{last_number}
use Rattle.rules.specs.Channel.{Piece, Channel, Answer, step}
use Rattle.session.specs.Step.{piece_of}
use Rattle.stretch.specs.Stretch.{Stretch, found, unread}
use Rattle.sender.specs.Sender.{when}
use Rattle.about_delivery.specs.Link.{Fate, lost, got}
use Rattle.about_delivery.specs.Delivered.{Report}

pub record Offer : Type 0 where
  pub arrival : ℕ
  pub frame : Piece

-- The frames that arrived.
abbrev pub offered : List Fate → List Offer
offered [] = []
offered (lost f ∷ ss) = offered ss
offered (got a f ∷ ss) = record { arrival = a; frame = f } ∷ offered ss

abbrev pub report : ℕ → Answer → Report
report a r = record { arrival = a; lost = r.lost; headers = r.headers; packets = r.packets }

-- What comes of a channel's frames, where `by` says what comes of one.
abbrev pub run_by : (ℕ → Channel → Piece → Answer) → Channel → List Offer → List Report
run_by by c [] = []
run_by by c (o ∷ os) = report o.arrival (by o.arrival c o.frame) ∷ run_by by (by o.arrival c o.frame).next os

-- By rules 1 to 5.
abbrev pub run : Channel → List Offer → List Report
run c os = run_by step c os

-- What of all that is offered to a session of this t, the last arrival number used being n, is for channel v: the frames that the frame
-- reader accepts for it, under their arrival numbers. Once 4,294,967,295 is used, nothing gets a number.
abbrev pub read_offer : ℕ → ℕ → List ℕ → Told Frame → List Offer
read_offer v a octets r =
    when (r.accepted && eqb r.fields.channel v) (record { arrival = a; frame = piece_of r.fields (data_of r.fields octets) })

abbrev pub offer_for : ℕ → ℕ → ℕ → Stretch → List Offer
offer_for t v a (found x) = read_offer v a x (read_frame t x)
offer_for t v a (unread m) = []

abbrev pub offers_of : ℕ → ℕ → ℕ → List Stretch → List Offer
offers_of t v n [] = []
offers_of t v n (x ∷ xs) = pick (eqb n last_number) [] (offer_for t v (n + 1) x ++ offers_of t v (n + 1) xs)
