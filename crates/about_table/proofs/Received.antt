-- The packet in two frames is received, and what is told of two tables.
use Rattle.std.specs.Prelude.{Ok, Err}
use Prim.Native.Nat.{ℕ, zero, suc, ◌<◌}
use native.Mathlib.Omega.{arith}
use mathlib.Core.Path.{◌≡◌, refl, sym, ap, ◌∙◌, subst}
use mathlib.Core.Bool.{Bool, true, false, true≢false}
use mathlib.Core.List.{List, [], ◌∷◌, ◌++◌}
use lib.Dec.{lit≤, lit<}
use borrow.Author.Tests.{eq-eqb, ne_eqb}
use Rattle.octets.specs.Parts.{part}
use Rattle.octets.specs.Pick.{pick}
use Rattle.octets.specs.Same.{same}
use Rattle.crc.specs.Check.{check_wrong, check}
use Rattle.frame.specs.Frame.{pointer_wrong}
use Rattle.frame.specs.Write.{fields_wrong}
use Rattle.packet.specs.Packet.{length_wrong, read_packet}
use Rattle.rules.specs.Channel.{Handed}
use Rattle.rules.specs.Packets.{Good}
use Rattle.session.specs.declared.Session.{Session}
use Rattle.session.specs.Answers.{StepAnswer}
use Rattle.session.specs.Lent.{Lent}
use Rattle.session.specs.Step.{told}
use Rattle.sender.specs.Sender.{AllWellFormed, Stream, Sender, when}
use Rattle.sender.specs.Stream.{next}
use Rattle.about_delivery.specs.Link.{fates}
use Rattle.about_delivery.specs.Expected.{FewLost}
use Rattle.about_delivery.specs.Delivered.{Report, handed}
use Rattle.about_delivery.specs.Run.{Call, Runs, read_out, answer_of, packets_of, report_of, took, reports_of}
use Rattle.about_delivery.specs.Demand.{Reception}
use Rattle.about_delivery.proofs.Facts.{nil-cons}
use Rattle.about_delivery.proofs.Recording.{demand_3}
use Rattle.about_delivery.proofs.MostLost.{alone-masters, alone-pieces, no_pieces, no_fates}
use Rattle.about_delivery.proofs.Witness.{receiving}
use Rattle.table.specs.Table.{widths_wrong, badly_formed, stands, against, fault, first_fault, verdict}
use Rattle.about_table.specs.Trained.{handed_out}
use Rattle.about_table.specs.Example.{packet, table, row, pieces, recording, link, Received}
use Rattle.about_table.proofs.Runs.{of_eight}

-- where the other channels hand out nothing, all is channel 0's
nothing-refused : (x : StepAnswer) (l : Lent) → (told x).accepted ≡ false → read_out (told x).fields.arrival
    (told x).fields.packets l ≡ []
nothing-refused (Ok a) l e = absurd (true≢false e)
nothing-refused (Err r) l e = refl

none-front : (xs ys : List Handed) → xs ++ ys ≡ [] → xs ≡ []
none-front [] ys e = refl
none-front (x ∷ xs) ys e = absurd (nil-cons (sym e))

none_rest : (b : Bool) (r : Report) (rs : List Report) → handed (when b r ++ rs) ≡ [] → handed rs ≡ []
none_rest false r rs e = e
none_rest true r rs e = ap (λ (xs : List Handed). xs ++ handed rs) (sym (none-front r.packets (handed rs) e)) ∙ e

only_zero : (cs : List Call) (s : Session) → Runs s cs → ((v : ℕ) → suc v < 8 → handed (reports_of (suc v) cs) ≡ [])
    → handed_out cs ≡ handed (reports_of 0 cs)
only_zero [] s w n = refl
only_zero (c ∷ cs) s w n =
    by (answer_of c).accepted refl (answer_of c).fields.channel refl
    (only_zero cs c.result.session w.1 (λ v l. none_rest (took (suc v) c) (report_of c) (reports_of (suc v) cs) (n v l)))
  where
    by : (b : Bool) → (answer_of c).accepted ≡ b → (k : ℕ) → (answer_of c).fields.channel ≡ k → handed_out cs ≡ handed (reports_of 0 cs)
        → handed_out (c ∷ cs) ≡ handed (reports_of 0 (c ∷ cs))
    by false e k d rest =
        let t : took 0 c ≡ false = simp e in
        rw (t, nothing-refused c.result.answer c.left e) rest
    by true e zero d rest =
        let t : took 0 c ≡ true = simp (e, d) in
        rw t (ap (λ (xs : List Handed). packets_of c ++ xs) rest)
    by true e (suc k) d rest =
        let t : took 0 c ≡ false = simp (e, d, ne_eqb (suc k) 0 (λ z. omega (arith, z))) in
        let u : took (suc k) c ≡ true = simp (e, d, eq-eqb (suc k) (suc k) refl) in
        let small : suc k < 8 = omega (arith, of_eight s c w.0 e) in
        let none : packets_of c ≡ [] = none-front (packets_of c) (handed (reports_of (suc k) cs)) (rw u at (n k small)) in
        rw (t, none) rest

good : Good (packet 5)
good = record { least = lit≤ tt; greatest = lit≤ tt; says = refl }

well_formed_lem : AllWellFormed 2 recording
unfolding fields_wrong pointer_wrong
well_formed_lem = (refl, (refl, tt))

abbrev streams : (v : ℕ) → v < 8 → Stream v recording
streams zero l =
    record {
      packets = packet 5 ∷ [];
      good = (good, tt);
      choices = next 10 ∷ next 6 ∷ [];
      first = 3;
      small = lit< tt;
      sent = alone-pieces 7
          pieces;
    }
streams (suc v) l = record { packets = []; good = tt; choices = []; first = 0; small = lit< tt; sent = no_pieces v 7 pieces }

abbrev sender : Sender 2 recording
sender = record { well_formed = well_formed_lem; master = 7; small = lit< tt; masters = alone-masters 7 pieces; streams = streams }

abbrev reception : Reception
reception = receiving recording sender link tt (lit≤ tt)

none_of : (v : ℕ) → FewLost (fates (suc v) 0 link recording)
none_of v = subst FewLost (sym (no_fates v 0 link 7 pieces)) tt

all_of_it : handed_out reception.calls ≡ record { first = 1; arrival = 2; packet = packet 5 } ∷ []
all_of_it =
    only_zero reception.calls reception.opened.session reception.runs
    (λ v l. (demand_3 reception (suc v) l (none_of v)).handed_out_lem)
    ∙ (demand_3 reception 0 (lit< tt) (lit≤ tt, (lit≤ tt, tt))).handed_out_lem

pub received : Received
unfolding part pick same check_wrong check length_wrong read_packet widths_wrong badly_formed stands against fault first_fault verdict
received =
    record {
      reception = reception;
      sent = refl;
      arrived = refl;
      packets = all_of_it;
      right = ap (verdict (table (row 1 0 2 0 0 5 ∷ []))) all_of_it;
      early = ap (verdict (table (row 1 0 1 0 0 5 ∷ []))) all_of_it;
    }
