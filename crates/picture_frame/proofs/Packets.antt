-- Laws of packets placed one after the other.
use Rattle.std.specs.Prelude.{Ok, Err}
use Prim.Native.Nat.{ℕ, suc, min, ◌+◌, ◌-◌, ◌*◌, ◌≤◌, ◌<◌}
use native.Mathlib.Omega.{arith}
use native.Mathlib.Nat.{sub-zero}
use native.Mathlib.Numerals.{add-one}
use mathlib.Core.Path.{◌≡◌, refl, sym, ap, ◌∙◌}
use mathlib.Core.List.{List, [], ◌∷◌}
use types.Run.{OneOf, miss}
use denote.Enum.Declared.{tag_of}
use lib.Dec.{eqb, ltb}
use borrow.Author.Tests.{eq-eqb, ne_eqb, ltb-true, ltb-false}
use lib.ListN.{length, take, drop, drop_of_length-le}
use lib.Seq.{drop-cons, take-nil}
use Rattle.octets.specs.Numbers.{at}
use Rattle.octets.specs.Parts.{part}
use Rattle.octets.specs.Pick.{pick}
use Rattle.octets.proofs.Choices.{picked, passed, picks}
use Rattle.answer.specs.Refusals.{image_other}
use Rattle.answer.specs.Told.{Told, number_of}
use Rattle.answer.specs.declared.Reason.{Reason}
use Rattle.answer.specs.declared.Reason.TheVariants as why
use Rattle.report.specs.Report.{told, read_report}
use Rattle.report.specs.declared.Content.{Content}
use Rattle.report.specs.declared.Content.TheVariants as content
use Rattle.report.specs.declared.Report.{Report}
use Rattle.report.specs.Answers.{ReportRead}
use Rattle.report.specs.contracts.Content.{the_type}
use Rattle.image.specs.Line.{image_of}
use Rattle.image.specs.Placing.{Outcome, observed}
use Rattle.image.specs.Answers.{Placed}
use Rattle.telling.specs.Counts.{counted}
use Rattle.picture_images.specs.Noted.{noted}
use Rattle.picture_frame.specs.Received.{Received, received, brought_of, image_in, left_by, leaving, all_placed}
use Rattle.picture_frame.specs.Received.{packets_in}

-- no other reason has the number of a line of another image
pub other_number : (r : Reason) → (r ≡ why.ImageOther → ⊥) → number_of r ≡ image_other → ⊥
other_number why.Room n e = omega arith
other_number why.TimeLength n e = omega arith
other_number why.Arrivals n e = omega arith
other_number why.Session n e = omega arith
other_number why.FrameLength n e = omega arith
other_number why.FrameCheck n e = omega arith
other_number (why.FrameDestination o) n e = omega arith
other_number (why.FrameSource o) n e = omega arith
other_number why.FrameControl n e = omega arith
other_number why.FrameProtocol n e = omega arith
other_number why.FrameVersion n e = omega arith
other_number why.FrameStatus n e = omega arith
other_number why.FramePointer n e = omega arith
other_number why.StretchOctets n e = omega arith
other_number why.StretchAbandoned n e = omega arith
other_number why.Escape n e = omega arith
other_number why.TypeOctet n e = omega arith
other_number why.PacketLength n e = omega arith
other_number why.PacketCheck n e = omega arith
other_number why.PacketBits n e = omega arith
other_number why.Pair n e = omega arith
other_number why.SourceLength n e = omega arith
other_number why.Line n e = omega arith
other_number why.NotLine n e = omega arith
other_number why.ImageShort n e = omega arith
other_number why.ImageOther n e = n refl
other_number why.LineHeld n e = omega arith
other_number why.NoArrival n e = omega arith
other_number why.ListShort n e = omega arith
other_number why.Entry n e = omega arith
other_number why.CountRange n e = omega arith
other_number why.OutputShort n e = omega arith
other_number why.FieldRange n e = omega arith
other_number why.PacketTurnedAway n e = omega arith
other_number why.DataLength n e = omega arith
other_number why.LayoutCodes n e = omega arith
other_number why.LayoutWidth n e = omega arith
other_number why.Sequences n e = omega arith
other_number why.NotHousekeeping n e = omega arith
other_number why.Greymap n e = omega arith
other_number why.LineList n e = omega arith
other_number why.UnnumberedLine n e = omega arith

-- by what `place` answered
module _ (packet : List ℕ) (r : Received) {x : Placed} {o : Outcome} {pixels lines : List ℕ}
    (e : observed x (image_of pixels lines) ≡ o) where
  pub line-left : {n : ℕ} → x ≡ Ok n → received pixels lines r.refused r.images ≡ left_by packet r o
  unfolding pick
  line-left h = ap (λ (p : Placed). left_by packet r (observed p (image_of pixels lines))) (sym h) ∙ ap (left_by packet r) e

  module _ {reason : Reason} {refused : List ℕ} (h : x ≡ Err reason) (c : refused ≡ counted r.refused (number_of reason)) where
    abbrev n : ℕ
    n = number_of reason

    counted-left : {images : List ℕ} → images ≡ pick (eqb n image_other) (noted r.images (image_in packet)) r.images
        → received pixels lines refused images ≡ left_by packet r o
    unfolding pick
    counted-left {images} i =
        ap (λ (l : List ℕ). received pixels lines l images) c
        ∙ ap (received pixels lines (counted r.refused n)) i
        ∙ ap (λ (p : Placed). left_by packet r (observed p (image_of pixels lines))) (sym h) ∙ ap (left_by packet r) e

    pub other-left : {m : ℕ} {images : List ℕ} → reason ≡ why.ImageOther → m ≡ image_in packet → images ≡ noted r.images m
        → received pixels lines refused images ≡ left_by packet r o
    other-left k m i = counted-left (i ∙ ap (noted r.images) m ∙ picked (eqb n image_other) _ r.images (eq-eqb _ _ (ap number_of k)))

    pub refusal-left : (reason ≡ why.ImageOther → ⊥) → received pixels lines refused r.images ≡ left_by packet r o
    refusal-left k = counted-left (passed (eqb n image_other) _ r.images _ (ne_eqb _ _ (other_number reason k)) refl)

-- by what the report's reader answered
module _ (packet : List ℕ) {x : ReportRead} (e : told x ≡ read_report packet) where
  pub no_report_lem : {n : Reason} → x ≡ Err n → 0 ≡ image_in packet
  unfolding image_in
  no_report_lem h =
      ap (λ (y : ReportRead). brought_of (told y).fields.content) (sym h) ∙ ap (λ (t : Told Report). brought_of t.fields.content) e

  pub of_content : {r : Report} → x ≡ Ok r → brought_of r.content ≡ image_in packet
  unfolding image_in
  of_content h =
      ap (λ (y : ReportRead). brought_of (told y).fields.content) (sym h) ∙ ap (λ (t : Told Report). brought_of t.fields.content) e

pub no_line : (c : Content) → OneOf (0 ∷ 1 ∷ 2 ∷ 3 ∷ []) (tag_of the_type c) → 0 ≡ brought_of c
no_line (content.Success c) k = refl
no_line (content.Failure c) k = refl
no_line (content.Housekeeping c) k = refl
no_line (content.Available c) k = refl
no_line (content.Line c) k = absurd (miss (0 ∷ 1 ∷ 2 ∷ 3 ∷ []) 4 tt k)

-- the first i packets were placed
pub record Going (octets lengths : List ℕ) (packets arrival wanted : ℕ) (before : Received) (from i : ℕ) (now : Received) : Type 0 where
  pub rest : all_placed arrival wanted before (packets_in octets 0 (take packets lengths))
      ≡ all_placed arrival wanted now (packets_in octets from (take (packets - i) (drop i lengths)))
  pub near : from ≤ 65535 * i
  pub most : i ≤ packets

module _ (octets lengths : List ℕ) (packets arrival wanted : ℕ) (before : Received) where
  pub none-placed : Going octets lengths packets arrival wanted before 0 0 before
  none-placed = record {
    rest = ap (λ (k : ℕ). all_placed arrival wanted before (packets_in octets 0 (take k lengths))) (sym (sub-zero packets));
    near = omega arith;
    most = omega arith;
  }

  module _ (from i : ℕ) (now : Received) (g : Going octets lengths packets arrival wanted before from i now) where
    pub one_placed : {n : ℕ} {row : List ℕ} {next : Received} → n ≡ at lengths i → i < packets → i < length lengths → n ≤ 65535
        → row ≡ part octets from n
        → next ≡ leaving row arrival wanted now → Going octets lengths packets arrival wanted before (from + n) (i + 1) next
    one_placed {n} {row} {next} long h inside small p e =
        let k : ℕ = packets - (i + 1) in
        let m : packets - i ≡ suc k = omega arith in
        record {
          rest = g.rest
              ∙ ap (λ (j : ℕ). all_placed arrival wanted now (packets_in octets from (take j (drop i lengths)))) m
              ∙ ap (λ (l : List ℕ). all_placed arrival wanted now (packets_in octets from (take (suc k) l))) (drop-cons lengths i 0 inside)
              ∙ ap (λ (m : ℕ). all_placed arrival wanted now (packets_in octets from (take (suc k) (m ∷ drop (suc i) lengths)))) (sym long)
              ∙ ap (λ (s : List ℕ). all_placed arrival wanted (leaving s arrival wanted now)
              (packets_in octets (from + n) (take k (drop (suc i) lengths)))) (sym p)
              ∙ ap (λ (r : Received). all_placed arrival wanted r (packets_in octets (from + n) (take k (drop (suc i) lengths)))) (sym e)
              ∙ ap (λ (j : ℕ). all_placed arrival wanted next (packets_in octets (from + n) (take k (drop j lengths)))) (sym (add-one i));
          near = omega (arith, g.near);
          most = omega arith;
        }

    no_length : length lengths ≤ i → now ≡ all_placed arrival wanted before (packets_in octets 0 (take packets lengths))
    no_length h =
        sym (g.rest
        ∙ ap (λ (l : List ℕ). all_placed arrival wanted now (packets_in octets from (take (packets - i) l))) (drop_of_length-le lengths h)
        ∙ ap (λ (l : List ℕ). all_placed arrival wanted now (packets_in octets from l)) (take-nil (packets - i)))

    no_packet_lem : packets ≤ i → now ≡ all_placed arrival wanted before (packets_in octets 0 (take packets lengths))
    no_packet_lem h =
        let none : packets - i ≡ 0 = omega arith in
        sym (g.rest ∙ ap (λ (j : ℕ). all_placed arrival wanted now (packets_in octets from (take j (drop i lengths)))) none)

    pub all-listed : min (length lengths) packets ≤ i → now ≡ all_placed arrival wanted before (packets_in octets 0 (take packets lengths))
    all-listed h =
        picks (λ (k : ℕ). now ≡ all_placed arrival wanted before (packets_in octets 0 (take packets lengths))) (ltb i packets) 0 0
        (λ t. let less : i < packets = ltb-true i packets t in no_length (omega arith)) (λ f. no_packet_lem (ltb-false i packets f))
