-- 5. What a session says of one channel, and that it is what is expected.
use Rattle.std.specs.Prelude.{ℕ, ◌≡◌, List, [], ◌∷◌, ◌++◌}
use Rattle.counts.specs.Loss.{Loss}
use Rattle.rules.specs.Channel.{Handed}
use Rattle.about_delivery.specs.Link.{Fate}
use Rattle.about_delivery.specs.Expected.{expected, LostAt, lost_at, expected_losses}

-- What is said at an arrival on the channel: the arrival number, the lost frames, the headers completed and the packets handed out.
pub record Report : Type 0 where
  pub arrival : ℕ
  pub lost : Loss
  pub headers : ℕ
  pub packets : List Handed

abbrev pub handed : List Report → List Handed
handed [] = []
handed (r ∷ rs) = r.packets ++ handed rs

abbrev pub losses : List Report → List LostAt
losses [] = []
losses (r ∷ rs) = lost_at r.arrival r.lost ∷ losses rs

-- Demand 3's conclusion, of a channel whose sender had these packets and whose frames had these fates.
pub record Delivered (packets : List (List ℕ)) (fates : List Fate) (reports : List Report) : Type 0 where
  -- It hands out, in the channel's order and once each, exactly the packets for which every frame from first octet to last arrived,
  -- unchanged, with the arrival numbers of the frames that held the first octet and the last.
  pub handed_out_lem : handed reports ≡ expected packets fates
  -- At each later arrival it reports how many of the channel's frames were lost since the one before.
  pub losses-told : losses reports ≡ expected_losses fates
