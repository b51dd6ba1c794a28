-- Worked out: how octets are cut by a data length, and two packets of 16 and 30 octets that come back from frames of 20.
use Rattle.std.specs.Prelude.{◌≡◌, List, [], ◌∷◌}
use Rattle.rules.specs.BothSides.{packet_of, out}
use Rattle.sender.specs.Stream.{next, frames_by}
use Rattle.sender.specs.Sender.{Framed}
use Rattle.sender.specs.Frames.{framed_from, choices_of}
use Rattle.sender.specs.declared.Common.{Common}
use Rattle.about_delivery.specs.Corners.{two}
use Rattle.about_delivery.specs.Witness.{station}
use Rattle.about_delivery.specs.Returned.{arrivals_of, all_back}

abbrev pub common : Common
common = record { destination = station 2; source = station 1; channel = 3; telecommands = 1; t = 2 }

-- The frames of 46 octets, with counts that wrap.
abbrev pub frames : List Framed
frames = framed_from common (4 ∷ 200 ∷ []) 255 (frames_by two 0 254 (choices_of 20 46))

pub record Example : Type 0 where
  pub cut : choices_of 20 46 ≡ next 20 ∷ next 20 ∷ next 6 ∷ []
  -- Where the data length divides the octets there is no empty frame behind; no octets give one.
  pub even : choices_of 16 32 ≡ next 16 ∷ next 16 ∷ []
  pub none : choices_of 16 0 ≡ next 0 ∷ []
  -- The first packet is in frame 1; the second begins there, with its last four octets, and ends in frame 3.
  pub back : all_back two (arrivals_of 3 0 frames) ≡ out 1 1 (packet_of 16 1) ∷ out 1 3 (packet_of 30 2) ∷ []
  -- Nothing is carried for another channel.
  pub other : arrivals_of 4 0 frames ≡ []
