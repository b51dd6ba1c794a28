-- A channel that loses too many leaves the other as it is.
use mathlib.Core.Path.{◌≡◌, refl}
use mathlib.Core.List.{List, [], ◌∷◌}
use Prim.Native.Nat.{ℕ, zero, suc, ◌<◌}
use native.Mathlib.Omega.{arith}
use lib.Dec.{lit≤, lit<}
use Rattle.frame.specs.Frame.{pointer_wrong}
use Rattle.frame.specs.Write.{fields_wrong}
use Rattle.rules.specs.Channel.{Piece}
use Rattle.sender.specs.Stream.{next_count}
use Rattle.sender.specs.Sender.{AllWellFormed, Mastered, pieces_of, Stream, Sender}
use Rattle.about_delivery.specs.Link.{fates}
use Rattle.about_delivery.specs.Expected.{FewLost}
use Rattle.about_delivery.specs.Demand.{Reception}
use Rattle.about_delivery.specs.Corners.{two, many_empty}
use Rattle.about_delivery.specs.Apart.{in_turn, zero_choices, order, recording, losing, Apart}
use Rattle.about_delivery.proofs.Corners.{good_16, good_30}
use Rattle.about_delivery.proofs.Recording.{demand_3}
use Rattle.about_delivery.proofs.Masters.{master-loss}
use Rattle.about_delivery.proofs.MostLost.{all_right_lem}
use Rattle.about_delivery.proofs.Witness.{receiving}

well_formed_lem : AllWellFormed 2 recording
unfolding fields_wrong pointer_wrong
well_formed_lem = all_right_lem 2 recording refl

in_turn_masters : (m : ℕ) (xs : List (ℕ × Piece)) → Mastered m (in_turn m xs)
in_turn_masters m [] = tt
in_turn_masters m (x ∷ xs) = (refl, in_turn_masters (next_count m) xs)

abbrev idle : (v : ℕ) → pieces_of v recording ≡ [] → Stream v recording
idle v e = record { packets = []; good = tt; choices = []; first = 0; small = lit< tt; sent = e }

abbrev streams : (v : ℕ) → v < 8 → Stream v recording
streams zero l = record { packets = two; good = (good_16, (good_30, tt)); choices = zero_choices; first = 254; small = lit< tt; sent = refl }
streams (suc zero) l = idle 1 refl
streams (suc (suc zero)) l = idle 2 refl
streams (suc (suc (suc zero))) l = idle 3 refl
streams (suc (suc (suc (suc zero)))) l = idle 4 refl
streams (suc (suc (suc (suc (suc zero))))) l =
    record { packets = two; good = (good_16, (good_30, tt)); choices = many_empty 256; first = 3; small = lit< tt; sent = refl }
streams (suc (suc (suc (suc (suc (suc zero)))))) l = idle 6 refl
streams (suc (suc (suc (suc (suc (suc (suc zero))))))) l = idle 7 refl
streams (suc (suc (suc (suc (suc (suc (suc (suc n)))))))) l = absurd (omega arith)

abbrev sender : Sender 2 recording
sender = record { well_formed = well_formed_lem; master = 7; small = lit< tt; masters = in_turn_masters 7 order; streams = streams }

abbrev reception : Reception
reception = receiving recording sender losing tt (lit≤ tt)

too_many : FewLost (fates 5 0 losing recording) → ⊥
too_many few = omega (arith, few.1.0)

pub apart : Apart
apart = record {
  reception = reception;
  sent = refl;
  lost = refl;
  too_many = too_many;
  packets = (demand_3 reception 0 (lit< tt) (lit≤ tt, (lit≤ tt, (lit≤ tt, tt)))).handed_out_lem;
  told = (demand_3 reception 0 (lit< tt) (lit≤ tt, (lit≤ tt, (lit≤ tt, tt)))).losses-told;
  masters = master-loss reception;
}
