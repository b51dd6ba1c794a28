-- 13. A recording in which a channel loses exactly 255 frames between two arrivals: the top statement speaks of it.
use Rattle.std.specs.Prelude.{ℕ, ◌≡◌, List, [], ◌∷◌, ◌++◌, replicate}
use Rattle.rules.specs.Channel.{Piece}
use Rattle.rules.specs.BothSides.{packet_of, out}
use Rattle.sender.specs.Stream.{next_count, frames_by}
use Rattle.sender.specs.Sender.{Framed}
use Rattle.about_delivery.specs.Link.{Passing, arrives, loses}
use Rattle.about_delivery.specs.Delivered.{handed, losses}
use Rattle.about_delivery.specs.Run.{reports_of}
use Rattle.about_delivery.specs.Demand.{Reception}
use Rattle.about_delivery.specs.Further.{master_losses}
use Rattle.about_delivery.specs.Corners.{two, loss, at_first, many_empty}
use Rattle.about_delivery.specs.Witness.{framed}

-- Frames of channel 0 alone, one after another.
abbrev pub alone : ℕ → List Piece → List Framed
alone master [] = []
alone master (p ∷ ps) = framed 0 master p ∷ alone (next_count master) ps

-- With 255 empty frames inside the first packet, all of which are lost.
abbrev pub pieces : List Piece
pieces = frames_by two 0 3 (many_empty 255)

abbrev pub recording : List Framed
recording = alone 7 pieces

abbrev pub losing : List Passing
losing = arrives ∷ replicate 255 loses ++ arrives ∷ arrives ∷ []

pub record MostLost : Type 0 where
  pub reception : Reception
  pub sent : reception.frames ≡ recording
  pub lost : reception.link ≡ losing
  pub packets : handed (reports_of 0 reception.calls) ≡ out 2 3 (packet_of 30 2) ∷ []
  pub told : losses (reports_of 0 reception.calls) ≡ at_first 1 ∷ loss 2 255 ∷ loss 3 0 ∷ []
  pub masters : master_losses reception.calls ≡ at_first 1 ∷ loss 2 255 ∷ loss 3 0 ∷ []
