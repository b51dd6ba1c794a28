-- The corners, by computing.
use mathlib.Core.Path.{refl}
use lib.Dec.{lit≤}
use Rattle.counts.specs.Lost.{lost_since}
use Rattle.rules.specs.Channel.{standing, push, place_after, length_holds, enter, follow, step}
use Rattle.rules.specs.Packets.{Good}
use Rattle.rules.specs.BothSides.{packet_of}
use Rattle.about_delivery.specs.Corners.{Corners}

pub good_16 : Good (packet_of 16 1)
good_16 = record { least = lit≤ tt; greatest = lit≤ tt; says = refl }

pub good_30 : Good (packet_of 30 2)
good_30 = record { least = lit≤ tt; greatest = lit≤ tt; says = refl }

pub corners : Corners
unfolding standing push place_after length_holds enter follow lost_since step
corners = record {
  gap-right = record { handed_out_lem = refl; losses-told = refl };
  gap-packets = refl;
  gap-losses = refl;
  raws-right = record { handed_out_lem = refl; losses-told = refl };
  raws-packets = refl;
  many-right = record { handed_out_lem = refl; losses-told = refl };
  many-packets = refl;
  many-losses = refl;
  split-right = record { handed_out_lem = refl; losses-told = refl };
  split-packets = refl;
  ends-right = record { handed_out_lem = refl; losses-told = refl };
  ends-packets = refl;
  too_many = refl;
  too_many_expected = refl;
}
