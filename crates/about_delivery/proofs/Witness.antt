-- The recording of two channels meets the top statement's hypotheses, and what is handed out of it.
use Rattle.std.specs.Prelude.{Ok}
use mathlib.Core.Path.{◌≡◌, refl, sym, ap, ◌∙◌, subst}
use mathlib.Core.List.{List, [], ◌∷◌, map}
use mathlib.Core.Bool.{false}
use Prim.Native.Nat.{ℕ, zero, suc, ◌+◌, ◌≤◌, ◌<◌}
use native.Mathlib.Omega.{arith}
use lib.ListN.{length}
use lib.Dec.{lit≤, lit<}
use Rattle.octets.specs.Pick.{pick}
use Rattle.answer.specs.Told.{Told, refuse}
use Rattle.answer.specs.Refusals as no
use Rattle.crc.specs.Check.{check_wrong, check, with_check}
use Rattle.frame.specs.declared.Frame.{Frame}
use Rattle.frame.specs.Frame.{no_frame, pointer_wrong, read_frame}
use Rattle.frame.specs.Write.{fields_wrong, frame_octets}
use Rattle.frame.proofs.ReadsBack.{reads-back}
use Rattle.rules.specs.Limits.{last_number}
use Rattle.rules.specs.Packets.{Good}
use Rattle.rules.specs.BothSides.{packet_of}
use Rattle.session.specs.declared.Opened.{Opened}
use Rattle.stretch.specs.Stretch.{Stretch}
use Rattle.session.specs.Open.{opened, opening, Opens}
use Rattle.sender.specs.Sender.{Framed, sent_octets, AllWellFormed, pieces_of, Stream, Sender}
use Rattle.about_delivery.specs.Link.{Passing, Strays, arriving, fates}
use Rattle.about_delivery.specs.Delivered.{Report, handed, Delivered}
use Rattle.about_delivery.specs.Run.{Call, reports_of}
use Rattle.about_delivery.specs.Demand.{Reception}
use Rattle.about_delivery.specs.Further.{refusal_of, own_refusal}
use Rattle.about_delivery.specs.Corners.{two}
use Rattle.about_delivery.specs.Witness.{zero_choices, five_choices, five_packets, recording, damaged, losing, AllRefused, Witness}
use Rattle.about_delivery.proofs.Corners.{good_16, good_30}
use Rattle.about_delivery.proofs.Lending.{calls_of, calls-run, calls-room, calls-offer}
use Rattle.about_delivery.proofs.Recording.{demand_3}
use Rattle.about_delivery.proofs.Masters.{master-loss}
use Rattle.about_delivery.proofs.Refused.{refusals-told}

good_251 : Good (packet_of 251 4)
good_251 = record { least = lit≤ tt; greatest = lit≤ tt; says = refl }

well_formed_lem : AllWellFormed 2 recording
unfolding fields_wrong pointer_wrong
well_formed_lem = (refl, (refl, (refl, (refl, (refl, (refl, (refl, (refl, tt))))))))

abbrev idle : (v : ℕ) → pieces_of v recording ≡ [] → Stream v recording
idle v e = record { packets = []; good = tt; choices = []; first = 0; small = lit< tt; sent = e }

abbrev streams : (v : ℕ) → v < 8 → Stream v recording
streams zero l = record { packets = two; good = (good_16, (good_30, tt)); choices = zero_choices; first = 254; small = lit< tt; sent = refl }
streams (suc zero) l = idle 1 refl
streams (suc (suc zero)) l = idle 2 refl
streams (suc (suc (suc zero))) l = idle 3 refl
streams (suc (suc (suc (suc zero)))) l = idle 4 refl
streams (suc (suc (suc (suc (suc zero))))) l =
    record {
      packets = five_packets;
      good = (good_251, (good_16, (good_30, tt)));
      choices = five_choices;
      first = 9;
      small = lit< tt;
      sent =
          refl;
    }
streams (suc (suc (suc (suc (suc (suc zero)))))) l = idle 6 refl
streams (suc (suc (suc (suc (suc (suc (suc zero))))))) l = idle 7 refl
streams (suc (suc (suc (suc (suc (suc (suc (suc n)))))))) l = absurd (omega arith)

abbrev sender : Sender 2 recording
sender = record {
  well_formed = well_formed_lem;
  master = 7;
  small = lit< tt;
  masters = (refl, (refl, (refl, (refl, (refl, (refl, (refl, (refl, tt))))))));
  streams = streams;
}

abbrev pub begun : Opened
begun = record { session = opened 2 0; answer = (Ok tt) }

pub opens : Opens 2 0 begun
unfolding opening pick
opens = record { session = refl; answers = refl }

-- the reader refuses the damaged frame with 11
spoilt : read_frame 2 damaged ≡ refuse no_frame no.frame_check
unfolding read_frame pick check_wrong check with_check frame_octets
spoilt = refl

strays : Strays 2 losing
strays = (tt, (ap (λ (x : Told Frame). x.accepted) spoilt, tt))

-- what a sender's frames and a link leave, offered to a fresh session
module _ (frames : List Framed) (sender : Sender 2 frames) (link : List Passing) where
  abbrev pub offered : List Stretch
  offered = arriving 2 link frames

  abbrev pub receiving : Strays 2 link → 0 + length offered ≤ last_number → Reception
  receiving strays numbers = record {
    t = 2;
    frames = frames;
    sender = sender;
    link = link;
    strays = strays;
    time_size = lit≤ tt;
    last = 0;
    opened = begun;
    opens = opens;
    calls = calls_of (opened 2 0) offered;
    offers = calls-offer (opened 2 0) offered;
    runs = calls-run (opened 2 0) offered;
    numbers = numbers;
    room = calls-room (opened 2 0) offered;
  }

abbrev reception : Reception
reception = receiving recording sender losing strays (lit≤ tt)

both : {m n : ℕ} {ms ns : List ℕ} → m ≡ n → ms ≡ ns → m ∷ ms ≡ n ∷ ns
both e es = cc

-- a frame of the sender's has no refusal of its own
unrefused : (f : Framed) → fields_wrong f.fields 2 (length f.«data») (length f.time) ≡ false
    → (read_frame 2 (sent_octets 2 f)).refusal ≡ 0
unrefused f w = ap (λ (r : Told Frame). r.refusal) (reads-back f.fields 2 f.«data» f.time w).fields

all_own : map (own_refusal 2) (arriving 2 losing recording) ≡ 0 ∷ 0 ∷ 17 ∷ 0 ∷ 11 ∷ 0 ∷ 0 ∷ 0 ∷ []
all_own =
    let w = well_formed_lem in
    both (unrefused _ w.0)
    (both (unrefused _ w.1.0)
    (both refl
    (both (unrefused _ w.1.1.0)
    (both (ap (λ (r : Told Frame). r.refusal) spoilt)
    (both (unrefused _ w.1.1.1.1.1.0)
    (both (unrefused _ w.1.1.1.1.1.1.0)
    (both (unrefused _ w.1.1.1.1.1.1.1.0) refl)))))))

told_so : map refusal_of reception.calls ≡ 0 ∷ 0 ∷ 17 ∷ 0 ∷ 11 ∷ 0 ∷ 0 ∷ 0 ∷ []
told_so =
    refusals-told 2 0 begun reception.calls (lit≤ tt) opens reception.runs reception.room
    (subst (λ (xs : List Stretch). 0 + length xs ≤ last_number) (sym reception.offers) (lit≤ tt))
    ∙ ap (map (own_refusal 2)) reception.offers ∙ all_own

none_said : (v : ℕ) (calls : List Call) → AllRefused calls → reports_of v calls ≡ []
none_said v [] a = refl
none_said v (c ∷ cs) a = rw (a.0, none_said v cs a.1)

all-refused : (calls : List Call) → AllRefused calls → Delivered five_packets (fates 5 0 losing recording) (reports_of 5 calls) → ⊥
all-refused calls a d =
    let z : ◌≡◌ {A = ℕ} 0 2 = ap (λ (rs : List Report). length (handed rs)) (sym (none_said 5 calls a)) ∙ ap length d.handed_out_lem in
    omega arith

pub witness : Witness
witness = record {
  reception = reception;
  sent = refl;
  lost = refl;
  fourth = refl;
  refused_as = told_so;
  zero-packets = (demand_3 reception 0 (lit< tt) (lit≤ tt, (lit≤ tt, (lit≤ tt, tt)))).handed_out_lem;
  zero-losses = (demand_3 reception 0 (lit< tt) (lit≤ tt, (lit≤ tt, (lit≤ tt, tt)))).losses-told;
  five-packets = (demand_3 reception 5 (lit< tt) (lit≤ tt, (lit≤ tt, (lit≤ tt, tt)))).handed_out_lem;
  five-losses = (demand_3 reception 5 (lit< tt) (lit≤ tt, (lit≤ tt, (lit≤ tt, tt)))).losses-told;
  masters = master-loss reception;
  refused = all-refused;
}
