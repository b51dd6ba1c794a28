-- 15. A recording in which one channel loses 256 frames between two arrivals: of the other channel the top statement still speaks.
use Rattle.std.specs.Prelude.{ℕ, ◌≡◌, List, [], ◌∷◌, ◌++◌, map, take, drop, replicate}
use Rattle.rules.specs.Channel.{Piece}
use Rattle.rules.specs.BothSides.{packet_of, out}
use Rattle.sender.specs.Stream.{Choice, next, next_count, frames_by}
use Rattle.sender.specs.Sender.{Framed}
use Rattle.about_delivery.specs.Link.{Passing, arrives, loses, fates}
use Rattle.about_delivery.specs.Expected.{FewLost}
use Rattle.about_delivery.specs.Delivered.{handed, losses}
use Rattle.about_delivery.specs.Run.{reports_of}
use Rattle.about_delivery.specs.Demand.{Reception}
use Rattle.about_delivery.specs.Further.{master_losses}
use Rattle.about_delivery.specs.Corners.{two, loss, at_first, many_empty}
use Rattle.about_delivery.specs.Witness.{framed}

-- Frames one after another, each with its channel.
abbrev pub in_turn : ℕ → List (ℕ × Piece) → List Framed
in_turn master [] = []
in_turn master (x ∷ xs) = framed x.0 master x.1 ∷ in_turn (next_count master) xs

abbrev pub on_channel : ℕ → List Piece → List (ℕ × Piece)
on_channel v ps = map (λ (p : Piece). (v, p)) ps

-- Of channel 0, two packets in three frames.
abbrev pub zero_choices : List Choice
zero_choices = next 10 ∷ next 30 ∷ next 6 ∷ []

abbrev pub zeros : List Piece
zeros = frames_by two 0 254 zero_choices

-- Of channel 5, 256 empty frames inside its first packet.
abbrev pub fives : List Piece
fives = frames_by two 0 3 (many_empty 256)

-- All frames of channel 5 stand between the first frame of channel 0 and the second.
abbrev pub order : List (ℕ × Piece)
order = on_channel 0 (take 1 zeros) ++ on_channel 5 fives ++ on_channel 0 (drop 1 zeros)

abbrev pub recording : List Framed
recording = in_turn 7 order

-- The 256 are lost.
abbrev pub losing : List Passing
losing = arrives ∷ arrives ∷ replicate 256 loses ++ arrives ∷ arrives ∷ arrives ∷ arrives ∷ []

pub record Apart : Type 0 where
  pub reception : Reception
  pub sent : reception.frames ≡ recording
  pub lost : reception.link ≡ losing
  -- More than 255 of channel 5 are lost, and nothing of channel 0.
  pub too_many : FewLost (fates 5 0 losing recording) → ⊥
  pub packets : handed (reports_of 0 reception.calls) ≡ out 1 5 (packet_of 16 1) ∷ out 5 6 (packet_of 30 2) ∷ []
  pub told : losses (reports_of 0 reception.calls) ≡ at_first 1 ∷ loss 5 0 ∷ loss 6 0 ∷ []
  -- The master loss shows 256 as 0.
  pub masters : master_losses reception.calls ≡ at_first 1 ∷ loss 2 0 ∷ loss 3 0 ∷ loss 4 0 ∷ loss 5 0 ∷ loss 6 0 ∷ []
