-- Laws of packets counted one after another, and of a session's answer.
use Rattle.std.specs.Prelude.{Result, Ok, Err}
use Prim.Native.Nat.{ℕ, suc, min, ◌+◌, ◌-◌, ◌*◌, ◌≤◌, ◌<◌}
use mathlib.Core.Path.{◌≡◌, refl, sym, ap, ◌∙◌}
use mathlib.Core.Bool.{true, false, ◌&&◌}
use mathlib.Core.List.{List, [], ◌∷◌}
use native.Mathlib.Omega.{arith}
use native.Mathlib.Nat.{sub-zero}
use native.Mathlib.Numerals.{add-one}
use lib.Dec.{eqb, ltb}
use lib.ListN.{length, take, drop, drop_of_length-le}
use lib.Seq.{drop-cons, take-nil, drop-drop}
use Rattle.octets.specs.Numbers.{at}
use Rattle.octets.specs.Pick.{pick}
use Rattle.octets.proofs.Choices.{picked, passed, picks}
use borrow.Author.Tests.{ltb-true, ltb-false}
use Rattle.answer.specs.Told.{Told, number_of}
use Rattle.answer.specs.declared.Reason.{Reason}
use Rattle.answer.specs.declared.Refusal.{Refusal}
use Rattle.packet.specs.Packet.{told}
use Rattle.packet.specs.declared.Packet.{Packet}
use Rattle.packet.specs.Answers.{PacketRead}
use Rattle.report.specs.Table.{image_line}
use Rattle.report.specs.Report.{read_report}
use Rattle.rules.specs.Packets.{cut}
use Rattle.sequence.specs.Sequence.{Outcome, observed, outcome}
use Rattle.sequence.specs.declared.Gap.{Gap}
use Rattle.sequence.specs.declared.Gap.TheVariants as gap
use Rattle.session.specs.declared.Accepted.{Accepted}
use Rattle.session.specs.Answers.{StepAnswer}
use Rattle.window.specs.Window.{hand}
use Rattle.summary_count.specs.Count.{added, accepted, of_number, key_of, Tally, tally, packet_counted, Sequel, sequel, with_gap}
use Rattle.summary_count.specs.Count.{sequel_of}
use Rattle.summary_count.specs.Count.{report_noted, Ledger, ledger, with_counts, key_counted, gap_counted, line_counted, read_counted}
use Rattle.summary_count.specs.Count.{by_reading, handed_counted, all_counted, answer_counted}

-- ---- the source sequence counts

-- by what the sequence gap is, or for what reason there is none
module _ (apid count : ℕ) (counts last : List ℕ) {x : Result Gap Reason} {last' : List ℕ}
    (e : observed x last' ≡ outcome apid count last) where
  by_gap : (y : Result Gap Reason) → x ≡ y → with_gap apid (observed y last') counts ≡ sequel_of apid count (sequel counts last)
  unfolding sequel_of
  by_gap y h =
      ap (λ (z : Result Gap Reason). with_gap apid (observed z last') counts) (sym h) ∙ ap (λ (o : Outcome). with_gap apid o counts) e

  pub gap-missing : {n : ℕ} {counts' : List ℕ} → x ≡ Ok (gap.Missing n) → counts' ≡ added counts (132096 + apid) n
      → sequel counts' last' ≡ sequel_of apid count (sequel counts last)
  unfolding pick
  gap-missing {n} h f = ap (λ (c : List ℕ). sequel c last') f ∙ by_gap (Ok (gap.Missing n)) h

  pub gap_restart : {counts' : List ℕ} → x ≡ Ok gap.Restart → counts' ≡ added counts (134144 + apid) 1
      → sequel counts' last' ≡ sequel_of apid count (sequel counts last)
  unfolding pick
  gap_restart h f = ap (λ (c : List ℕ). sequel c last') f ∙ by_gap (Ok gap.Restart) h

  pub gap_unknown : x ≡ Ok gap.Unknown → sequel counts last' ≡ sequel_of apid count (sequel counts last)
  unfolding pick
  gap_unknown h = by_gap (Ok gap.Unknown) h

  pub gap-none : {r : Reason} → x ≡ Err r → sequel counts last' ≡ sequel_of apid count (sequel counts last)
  unfolding pick
  gap-none {r} h = by_gap (Err r) h

-- ---- a packet

-- a packet that was read: by its key, then by its gap, then by its line
module _ (p : Packet) (packet : List ℕ) (g : Ledger) {key : ℕ} {counts keys many counts₂ last₂ : List ℕ}
    (k : key ≡ key_of p.apid p.service p.subtype) (e : tally counts keys many ≡ packet_counted key g.tally)
    (s : sequel counts₂ last₂ ≡ sequel_of p.apid p.sequence.0 (sequel counts g.last)) where
  after-key : ledger counts keys many g.last ≡ key_counted p g
  after-key =
      ap (λ (t : Tally). record { tally = t; last = g.last }) (e ∙ ap (λ (n : ℕ). packet_counted n g.tally) k)

  after-gap : ledger counts₂ keys many last₂ ≡ gap_counted p (key_counted p g)
  after-gap = ap (λ (z : Sequel). ledger z.counts keys many z.last) s ∙ ap (gap_counted p) after-key

  pub no_line : (eqb p.service 128 && eqb p.subtype 7) ≡ false → ledger counts₂ keys many last₂ ≡ read_counted p packet g
  unfolding read_counted image_line
  no_line f = passed (image_line p) _ (ledger counts₂ keys many last₂) _ f refl ∙ ap (line_counted p packet) after-gap

  pub its_line : {counts₃ : List ℕ} → (eqb p.service 128 && eqb p.subtype 7) ≡ true → counts₃ ≡ report_noted
      (read_report packet) counts₂
      → ledger counts₃ keys many last₂ ≡ read_counted p packet g
  unfolding read_counted image_line
  its_line f n =
      ap (λ (c : List ℕ). ledger c keys many last₂) n
      ∙ picked (image_line p) (ledger (report_noted (read_report packet) counts₂) keys many last₂) (ledger counts₂ keys many last₂) f
      ∙ ap (line_counted p packet) after-gap

-- by what a packet's reader gave
module _ (packet : List ℕ) (g : Ledger) {x : PacketRead} {t : Told Packet} (e : told x ≡ t) where
  pub packet-read : {p : Packet} {g' : Ledger} → x ≡ Ok p → g' ≡ read_counted p packet g → g' ≡ by_reading t packet g
  unfolding pick
  packet-read h f =
      f ∙ ap (λ (y : PacketRead). by_reading (told y) packet g) (sym h) ∙ ap (λ (y : Told Packet). by_reading y packet g) e

  pub packet-away : {r : Reason} {counts : List ℕ} → x ≡ Err r → counts ≡ of_number g.tally.counts 7 66560 (number_of r)
      → with_counts g counts ≡ by_reading t packet g
  unfolding pick
  packet-away h f =
      ap (λ (c : List ℕ). with_counts g c) f
      ∙ ap (λ (y : PacketRead). by_reading (told y) packet g) (sym h) ∙ ap (λ (y : Told Packet). by_reading y packet g) e

-- ---- packets one after another

-- the first i packets are counted
pub record Going (octets lengths : List ℕ) (packets : ℕ) (before : Ledger) (from i : ℕ) (now : Ledger) : Type 0 where
  pub rest : all_counted (cut octets (take packets lengths)) before ≡ all_counted
      (cut (drop from octets) (take (packets - i) (drop i lengths))) now
  pub near : from ≤ 65535 * i
  pub most : i ≤ packets

module _ (octets lengths : List ℕ) (packets : ℕ) (before : Ledger) where
  pub none-counted : Going octets lengths packets before 0 0 before
  none-counted = record {
    rest = ap (λ (k : ℕ). all_counted (cut octets (take k lengths)) before) (sym (sub-zero packets));
    near = omega arith;
    most = omega arith;
  }

  module _ (from i : ℕ) (now : Ledger) (g : Going octets lengths packets before from i now) where
    pub one-counted : {n : ℕ} {row : List ℕ} {next : Ledger} → n ≡ at lengths i → i < packets → i < length lengths → n ≤ 65535
        → row ≡ hand octets from (from + n) → next ≡ handed_counted row now
        → Going octets lengths packets before (from + n) (i + 1) next
    one-counted {n} {row} {next} long h inside small p e =
        let k : ℕ = packets - (i + 1) in
        let m : packets - i ≡ suc k = omega arith in
        let f : from + n - from ≡ n = omega arith in
        let o : n + from ≡ from + n = omega arith in
        let first : row ≡ take n (drop from octets) = p ∙ ap (λ (j : ℕ). take j (drop from octets)) f in
        let then : drop n (drop from octets) ≡ drop (from + n) octets = drop-drop n from octets in
        record {
          rest = g.rest
              ∙ ap (λ (j : ℕ). all_counted (cut (drop from octets) (take j (drop i lengths))) now) m
              ∙ ap (λ (l : List ℕ). all_counted (cut (drop from octets) (take (suc k) l)) now) (drop-cons lengths i 0 inside)
              ∙ ap (λ (m : ℕ). all_counted (cut (drop from octets) (take (suc k) (m ∷ drop (suc i) lengths))) now) (sym long)
              ∙ ap (λ (x : List ℕ). all_counted (cut x (take k (drop (suc i) lengths))) (handed_counted (take n (drop from octets)) now)) then
              ∙ ap (λ (x : List ℕ). all_counted (cut (drop (from + n) octets) (take k (drop (suc i) lengths))) (handed_counted x now))
              (sym first)
              ∙ ap (λ (x : Ledger). all_counted (cut (drop (from + n) octets) (take k (drop (suc i) lengths))) x) (sym e)
              ∙ ap (λ (j : ℕ). all_counted (cut (drop (from + n) octets) (take k (drop j lengths))) next) (sym (add-one i));
          near = omega (arith, g.near);
          most = omega arith;
        }

    no_length : length lengths ≤ i → now ≡ all_counted (cut octets (take packets lengths)) before
    no_length h =
        sym (g.rest
        ∙ ap (λ (l : List ℕ). all_counted (cut (drop from octets) (take (packets - i) l)) now) (drop_of_length-le lengths h)
        ∙ ap (λ (l : List ℕ). all_counted (cut (drop from octets) l) now) (take-nil (packets - i)))

    no_packet_lem : packets ≤ i → now ≡ all_counted (cut octets (take packets lengths)) before
    no_packet_lem h =
        let none : packets - i ≡ 0 = omega arith in
        sym (g.rest ∙ ap (λ (j : ℕ). all_counted (cut (drop from octets) (take j (drop i lengths))) now) none)

    pub all-listed : min (length lengths) packets ≤ i → now ≡ all_counted (cut octets (take packets lengths)) before
    all-listed h =
        picks (λ (k : ℕ). now ≡ all_counted (cut octets (take packets lengths)) before) (ltb i packets) 0 0
        (λ t. let less : i < packets = ltb-true i packets t in no_length (omega arith)) (λ f. no_packet_lem (ltb-false i packets f))

-- ---- an answer

module _ (octets lengths : List ℕ) (g : Ledger) {x : StepAnswer} where
  pub frame-accepted : {a : Accepted} {counts : List ℕ} {g' : Ledger} → x ≡ Ok a
      → counts ≡ accepted g.tally.counts a.channel a.lost a.master
      → g' ≡ all_counted (cut octets (take a.packets lengths)) (with_counts g counts) → g' ≡ answer_counted x octets lengths g
  frame-accepted {a} h e f =
      f
      ∙ ap (λ (c : List ℕ). all_counted (cut octets (take a.packets lengths)) (with_counts g c)) e
      ∙ ap (λ (y : StepAnswer). answer_counted y octets lengths g) (sym h)

  pub frame_refused : {r : Refusal} {counts : List ℕ} → x ≡ Err r
      → counts ≡ of_number g.tally.counts 3 1024 r.number → with_counts g counts ≡ answer_counted x octets lengths g
  frame_refused h e =
      ap (λ (c : List ℕ). with_counts g c) e ∙ ap (λ (y : StepAnswer). answer_counted y octets lengths g) (sym h)
