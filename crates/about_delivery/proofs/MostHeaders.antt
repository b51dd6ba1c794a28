-- The frames that reach 16 and 17 headers.
use mathlib.Core.Path.{refl, ap}
use mathlib.Core.List.{List, [], ◌∷◌}
use Prim.Native.Nat.{ℕ, zero, suc, ◌<◌}
use lib.Dec.{lit≤, lit<}
use Rattle.counts.specs.Lost.{lost_since}
use Rattle.frame.specs.Frame.{pointer_wrong}
use Rattle.frame.specs.Write.{fields_wrong}
use Rattle.rules.specs.Channel.{standing, push, place_after, length_holds, enter, follow, step}
use Rattle.rules.specs.Packets.{AllGood}
use Rattle.session.specs.Open.{opened}
use Rattle.stretch.specs.Stretch.{Stretch}
use Rattle.sender.specs.Stream.{next}
use Rattle.sender.specs.Sender.{Framed, AllWellFormed, Stream, Sender}
use Rattle.about_delivery.specs.Link.{Passing, arrives, arriving}
use Rattle.about_delivery.specs.Run.{Call, Runs, Room}
use Rattle.about_delivery.specs.Demand.{Reception}
use Rattle.about_delivery.specs.MostLost.{alone}
use Rattle.about_delivery.specs.MostHeaders.{headers_of, many, sent_pieces, torn, both, MostHeaders}
use Rattle.about_delivery.proofs.Corners.{good_16}
use Rattle.about_delivery.proofs.Lending.{calls_of, calls-run, calls-room, calls-offer}
use Rattle.about_delivery.proofs.Recording.{frames-said, said-is}
use Rattle.about_delivery.proofs.MostLost.{alone-masters, alone-pieces, no_pieces}
use Rattle.about_delivery.proofs.Witness.{begun, opens, receiving}

many-good : AllGood many
many-good = (
  good_16,
  (
    good_16,
    (
      good_16,
      (
        good_16,
        (
          good_16,
          (
            good_16,
            (
              good_16,
              (
                good_16,
                (good_16, (good_16, (good_16, (good_16, (good_16, (good_16, (good_16, (good_16, tt)))))))),
              ),
            ),
          ),
        ),
      ),
    ),
  ),
)

abbrev sent : List Framed
sent = alone 7 sent_pieces

sent-formed : AllWellFormed 2 sent
unfolding fields_wrong pointer_wrong
sent-formed = (refl, tt)

torn-formed : AllWellFormed 2 torn
unfolding fields_wrong pointer_wrong
torn-formed = (refl, (refl, tt))

abbrev streams : (v : ℕ) → v < 8 → Stream v sent
streams zero l =
    record { packets = many; good = many-good; choices = next 249 ∷ []; first = 3; small = lit< tt; sent = alone-pieces 7 sent_pieces }
streams (suc v) l = record { packets = []; good = tt; choices = []; first = 0; small = lit< tt; sent = no_pieces v 7 sent_pieces }

abbrev sender : Sender 2 sent
sender = record { well_formed = sent-formed; master = 7; small = lit< tt; masters = alone-masters 7 sent_pieces; streams = streams }

abbrev one : List Passing
one = arrives ∷ []

abbrev reception : Reception
reception = receiving sent sender one tt (lit≤ tt)

abbrev offer : List Stretch
offer = arriving 2 both torn

abbrev calls : List Call
calls = calls_of (opened 2 0) offer

abbrev runs : Runs (opened 2 0) calls
runs = calls-run (opened 2 0) offer

abbrev room : Room calls
room = calls-room (opened 2 0) offer

pub most-headers : MostHeaders
unfolding standing push place_after length_holds enter follow lost_since step
most-headers = record {
  reception = reception;
  sent = refl;
  sixteen = ap headers_of (said-is reception 0 (lit< tt));
  opened = begun;
  opens = opens;
  calls = calls;
  offers = calls-offer (opened 2 0) offer;
  runs = runs;
  room = room;
  seventeen =
      ap headers_of
      (frames-said 2 0 0 (lit≤ tt) (lit< tt) begun opens calls runs room both tt torn torn-formed (calls-offer (opened 2 0) offer)
      (lit≤ tt));
}
