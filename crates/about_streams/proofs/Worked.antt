-- The worked streams meet demand 3's hypotheses, and what comes of them.
use Prim.Native.Nat.{ℕ, zero, suc, ◌<◌}
use mathlib.Core.Path.{◌≡◌, refl, ap, ap₂, ◌∙◌}
use mathlib.Core.Bool.{false}
use mathlib.Core.List.{List, [], ◌∷◌, map, flat_map}
use native.Mathlib.Omega.{arith}
use lib.ListN.{length, take, length-map}
use lib.Dec.{lit≤, lit<}
use Rattle.octets.specs.Pick.{pick}
use Rattle.bits.specs.Rows.{ones}
use Rattle.bits.specs.Rows.Order.{low_first}
use Rattle.crc.specs.Check.{check, with_check, check_wrong}
use Rattle.answer.specs.Told.{Told, refuse_at}
use Rattle.frame.specs.Address.{first_wrong, wrong_behind}
use Rattle.frame.specs.Frame.{no_frame, pointer_wrong, read_header, read_frame}
use Rattle.frame.specs.Write.{fields_wrong, frame_octets}
use Rattle.frame.specs.declared.Frame.{Frame}
use Rattle.frame.proofs.ReadsBack.{reads-back}
use Rattle.rules.specs.Packets.{Good}
use Rattle.session.specs.Open.{opened}
use Rattle.stretch.specs.Stretch.{Stretch, most_kept}
use Rattle.sender.specs.Stream.{next}
use Rattle.sender.specs.Sender.{Framed, AllWellFormed, Stream, Sender}
use Rattle.about_delivery.specs.Link.{Passing, arrives, loses, noise, arriving, fates}
use Rattle.about_delivery.specs.Expected.{expected, expected_losses, FewLost}
use Rattle.about_delivery.specs.Delivered.{Delivered}
use Rattle.about_delivery.specs.Run.{offer_of, reports_of}
use Rattle.about_delivery.specs.Further.{own_refusal}
use Rattle.about_delivery.proofs.Lending.{calls_of, calls-run, calls-room, calls-offer}
use Rattle.about_delivery.proofs.Refused.{refusals-told}
use Rattle.about_delivery.proofs.MostLost.{alone-masters, alone-pieces, no_pieces}
use Rattle.about_delivery.proofs.Witness.{begun, opens}
use Rattle.about_delivery.specs.Returned.{Offered}
use Rattle.kiss.specs.Stream as kiss
use Rattle.rawbits.specs.Recording as rawbits
use Rattle.about_streams.specs.Carried.{Faithful, Readable}
use Rattle.about_streams.specs.Kiss.{InPieces}
use Rattle.about_streams.specs.Bits.{Scanned}
use Rattle.about_streams.specs.Worked.{escaped_packet, stuffed_packet, pieces, frames, noisy, Comes, Worked}
use Rattle.about_streams.specs.Worked.{relayed, kiss_stream, WorkedKiss, damaged, bits_stream, WorkedBits}
use Rattle.about_streams.proofs.Carried.{clipped_link, carries, told_is}
use Rattle.about_streams.proofs.Kiss.{kiss_faithful, kiss_readable}
use Rattle.about_streams.proofs.Bits.{bits_faithful, bits-readable}

-- ---- the sender

good-escaped : Good escaped_packet
good-escaped = record { least = lit≤ tt; greatest = lit≤ tt; says = refl }

good-stuffed : Good stuffed_packet
good-stuffed = record { least = lit≤ tt; greatest = lit≤ tt; says = refl }

well_formed_lem : AllWellFormed 2 frames
unfolding fields_wrong pointer_wrong
well_formed_lem = (refl, (refl, (refl, (refl, tt))))

abbrev streams : (v : ℕ) → v < 8 → Stream v frames
streams zero l =
    record {
      packets = escaped_packet ∷ stuffed_packet ∷ [];
      good = (good-escaped, (good-stuffed, tt));
      choices = next 10 ∷ next 6 ∷ next 0 ∷ next 16 ∷ [];
      first = 254;
      small = lit< tt;
      sent = alone-pieces 218 pieces;
    }
streams (suc v) l = record { packets = []; good = tt; choices = []; first = 0; small = lit< tt; sent = no_pieces v 218 pieces }

abbrev sender : Sender 2 frames
sender = record { well_formed = well_formed_lem; master = 218; small = lit< tt; masters = alone-masters 218 pieces; streams = streams }

-- ---- any such stream

-- a session answers 0 to a sender's frames, and to what comes between them its own refusal
abbrev answers : ℕ → List Passing → List Framed → List ℕ
answers t [] fs = []
answers t (noise x ∷ link) fs = own_refusal t x ∷ answers t link fs
answers t (arrives ∷ link) [] = answers t link []
answers t (arrives ∷ link) (f ∷ fs) = 0 ∷ answers t link fs
answers t (loses ∷ link) [] = answers t link []
answers t (loses ∷ link) (f ∷ fs) = answers t link fs

own_refusals : (t : ℕ) (link : List Passing) (fs : List Framed) → AllWellFormed t fs
    → map (own_refusal t) (arriving t link fs) ≡ answers t link fs
own_refusals t [] fs w = refl
own_refusals t (noise x ∷ link) fs w = ap (λ (ns : List ℕ). own_refusal t x ∷ ns) (own_refusals t link fs w)
own_refusals t (arrives ∷ link) [] w = own_refusals t link [] w
own_refusals t (arrives ∷ link) (f ∷ fs) w =
    let read = (reads-back f.fields t f.«data» f.time w.0).fields in
    ap₂ (λ (n : ℕ) (ns : List ℕ). n ∷ ns) (ap (λ (r : Told Frame). r.refusal) read) (own_refusals t link fs w.1)
own_refusals t (loses ∷ link) [] w = own_refusals t link [] w
own_refusals t (loses ∷ link) (f ∷ fs) w = own_refusals t link fs w.1

module _ (held : List ℕ → List Stretch) (Tells : List ℕ → List Stretch → Type 0)
    (faithful : Faithful held Tells) (readable : Readable Tells)
    (stream : List ℕ) (a b c : ℕ) (x : List ℕ) (holds : held stream ≡ arriving 2 (noisy a b x) frames)
    (refused : (read_frame 2 x).accepted ≡ false) (own : (read_frame 2 (take most_kept x)).refusal ≡ c) where
  few : (last : ℕ) → FewLost (fates 0 last (noisy a b x) frames)
  few last = (lit≤ tt, (lit≤ tt, (lit≤ tt, tt)))

  module _ (told : List Stretch) (tells : Tells stream told) where
    told_so : told ≡ arriving 2 (clipped_link (noisy a b x)) frames
    told_so = told_is held Tells faithful 2 frames well_formed_lem (noisy a b x) stream told holds tells

    offering : Offered 2 told
    offering =
        record {
          time_size = lit≤ tt;
          last = 0;
          opened = begun;
          opens = opens;
          calls = calls_of (opened 2 0) told;
          offers = calls-offer (opened 2 0) told;
          runs = calls-run (opened 2 0) told;
          numbers = omega (arith, ap length told_so);
          room = calls-room (opened 2 0) told;
        }

    module _ (o : Offered 2 told) (fresh : o.last ≡ 0) where
      delivered : Delivered (escaped_packet ∷ stuffed_packet ∷ []) (fates 0 o.last (noisy a b x) frames) (reports_of 0 o.calls)
      delivered =
          carries held Tells faithful 2 frames sender (noisy a b x) (tt, (tt, (refused, tt))) stream told holds tells o 0 (lit< tt)
          (few o.last)

      comes : Comes a b c o.calls
      comes =
          record {
            refusals =
                refusals-told 2 o.last o.opened o.calls o.time_size o.opens o.runs o.room
                (omega (arith, o.numbers, ap length o.offers, length-map o.calls offer_of))
                ∙ ap (map (own_refusal 2)) (o.offers ∙ told_so)
                ∙ own_refusals 2 (clipped_link (noisy a b x)) frames well_formed_lem
                ∙ ap (λ (n : ℕ). a ∷ 0 ∷ b ∷ 0 ∷ n ∷ 0 ∷ []) own;
            packets =
                delivered.handed_out_lem
                ∙ ap (λ (n : ℕ). expected (escaped_packet ∷ stuffed_packet ∷ []) (fates 0 n (noisy a b x) frames)) fresh;
            told = delivered.losses-told ∙ ap (λ (n : ℕ). expected_losses (fates 0 n (noisy a b x) frames)) fresh;
          }

  worked : Worked held Tells stream a b c x
  unfolding offering
  worked =
      record {
        holds = holds;
        comes = comes;
        read = readable stream;
        offered = offering (readable stream).told (readable stream).tells;
        fresh = refl;
      }

-- ---- KISS

kiss_holds : kiss.stretches_in kiss_stream ≡ arriving 2 (noisy 18 19 (with_check low_first (ones 16) relayed)) frames
unfolding kiss_stream kiss.stretches_in kiss.unescaped pick frame_octets
kiss_holds = refl

relayed-answer : read_frame 2 (take most_kept (with_check low_first (ones 16) relayed)) ≡ refuse_at no_frame 121 13
unfolding read_frame read_header first_wrong wrong_behind with_check check_wrong check pick
relayed-answer = refl

relayed-refused : (read_frame 2 (with_check low_first (ones 16) relayed)).accepted ≡ false
unfolding read_frame read_header first_wrong wrong_behind with_check check_wrong check pick
relayed-refused = refl

pub worked_kiss : WorkedKiss
worked_kiss =
    worked kiss.stretches_in InPieces kiss_faithful kiss_readable kiss_stream 18 19 121 (with_check low_first (ones 16) relayed) kiss_holds
    relayed-refused (ap (λ (r : Told Frame). r.refusal) relayed-answer)

-- ---- raw bits

bits-holds : rawbits.stretches_in bits_stream ≡ arriving 2 (noisy 17 16 damaged) frames
unfolding bits_stream flat_map rawbits.stretch_of rawbits.abandoned rawbits.left pick frame_octets with_check check
bits-holds = refl

damaged-refused : (read_frame 2 damaged).accepted ≡ false
unfolding read_frame frame_octets with_check check_wrong check pick
damaged-refused = refl

damaged-answer : (read_frame 2 (take most_kept damaged)).refusal ≡ 11
unfolding read_frame frame_octets with_check check_wrong check pick
damaged-answer = refl

pub worked-bits : WorkedBits
worked-bits =
    worked rawbits.stretches_in Scanned bits_faithful bits-readable bits_stream 17 16 11 damaged bits-holds damaged-refused damaged-answer
