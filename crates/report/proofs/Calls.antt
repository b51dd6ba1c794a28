-- Demand 2 over the calls of the reports, by the contracts that Rattle generates of them: the five that write, the one that reads, and
-- those that give the strings which stand beside the fields.
use Rattle.std.specs.Prelude.{Ok}
use Prim.Native.Nat.{ℕ}
use mathlib.Core.Path.{◌≡◌, refl, ap, ◌∙◌}
use mathlib.Core.List.{List, [], ◌∷◌}
use Rattle.answer.specs.Called.{Called}
use Rattle.answer.specs.Back.{Format, CallsBack}
use Rattle.answer.specs.Writer.{Written}
use Rattle.answer.proofs.Called.{of_call}
use Rattle.answer.proofs.Back.{Defined}
use Rattle.answer.proofs.Back as back
use Rattle.packet.specs.declared.Packet.{Packet}
use Rattle.report.specs.Report.{told, read_report, rest_of, first_block, second_block, pixels_of}
use Rattle.report.specs.Write.{strings_of, report_wrong, report_octets, WroteReport}
use Rattle.report.specs.declared.Housekeeping.{Housekeeping}
use Rattle.report.specs.declared.Available.{Available}
use Rattle.report.specs.declared.Line.{Line}
use Rattle.report.specs.declared.Content.{Content}
use Rattle.report.specs.declared.Content.TheVariants as content
use Rattle.report.specs.declared.Report.{Report}
use Rattle.report.specs.Answers.{ReportRead}
use Rattle.report.proofs.Back.{reads-back, writes-back}
use Rattle.report.proofs.Told.{told_apart}
use Rattle.report.proofs.Report.read.Kinds as kread
use Rattle.report.proofs.Report.read.Reads as rread
use Rattle.report.proofs.Housekeeping.rest.Kinds as krest
use Rattle.report.proofs.Housekeeping.rest.Reads as rrest
use Rattle.report.proofs.Available.first_block.Kinds as kfirst-block
use Rattle.report.proofs.Available.first_block.Reads as rfirst-block
use Rattle.report.proofs.Available.second_block.Kinds as ksecond-block
use Rattle.report.proofs.Available.second_block.Reads as rsecond-block
use Rattle.report.proofs.Line.pixels.Kinds as kpixels
use Rattle.report.proofs.Line.pixels.Reads as rpixels
use Rattle.report.proofs.Success.write.Kinds as ksuccess
use Rattle.report.proofs.Success.write.Reads as rsuccess
use Rattle.report.proofs.Failure.write.Kinds as kfailure
use Rattle.report.proofs.Failure.write.Reads as rfailure
use Rattle.report.proofs.Housekeeping.write.Kinds as khousekeeping
use Rattle.report.proofs.Housekeeping.write.Reads as rhousekeeping
use Rattle.report.proofs.Available.write.Kinds as kavailable
use Rattle.report.proofs.Available.write.Reads as ravailable
use Rattle.report.proofs.Line.write.Kinds as kline
use Rattle.report.proofs.Line.write.Reads as rline

-- content, packet's fields, lent strings, output, answer and output afterwards of a call that writes
abbrev pub Seen : Type 0
Seen = Content × Packet × List (List ℕ) × List ℕ × Written × List ℕ

-- the call that writes a report of this content
abbrev pub WritesAs : Content → Seen → Type 0
WritesAs (content.Success c) =
    Called ksuccess.ps ksuccess.r rsuccess.Post {A = Seen}
    (λ κs a x s. (content.Success a.0, a.1.0, [], a.1.1.0.now, x, s.1.1.0.now))
WritesAs (content.Failure c) =
    Called kfailure.ps kfailure.r rfailure.Post {A = Seen}
    (λ κs a x s. (content.Failure a.0, a.1.0, [], a.1.1.0.now, x, s.1.1.0.now))
WritesAs (content.Housekeeping c) =
    Called khousekeeping.ps khousekeeping.r rhousekeeping.Post {A = Seen}
    (λ κs a x s. (content.Housekeeping a.0, a.1.0, a.1.1.0.now ∷ [], a.1.1.1.0.now, x, s.1.1.1.0.now))
WritesAs (content.Available c) =
    Called kavailable.ps kavailable.r ravailable.Post {A = Seen}
    (λ κs a x s.
    (content.Available a.0, a.1.0, a.1.1.0.now ∷ a.1.1.1.0.now ∷ [], a.1.1.1.1.0.now, x, s.1.1.1.1.0.now))
WritesAs (content.Line c) =
    Called kline.ps kline.r rline.Post {A = Seen}
    (λ κs a x s. (content.Line a.0, a.1.0, a.1.1.0.now ∷ [], a.1.1.1.0.now, x, s.1.1.1.0.now))

abbrev pub Writes : Report → List (List ℕ) → List ℕ → Written → List ℕ → Type 0
Writes r strings out w out' = WritesAs r.content (r.content, r.packet, strings, out, w, out')

-- octets and answer of a call of `read`
abbrev pub Reads : List ℕ → ReportRead → Type 0
Reads s q = Called kread.ps kread.r rread.Post {A = List ℕ × ReportRead} (λ κs a x e. (a.0.now, x)) (s, q)

-- content, octets and strings found of the calls that find them
abbrev pub FindsRest : Housekeeping → List ℕ → List (List ℕ) → Type 0
FindsRest c s strings =
    Called krest.ps krest.r rrest.Post {A = Housekeeping × List ℕ × List (List ℕ)}
    (λ κs a x e. (a.0, a.1.0.now, x.now ∷ [])) (c, s, strings)

abbrev pub FindsPixels : Line → List ℕ → List (List ℕ) → Type 0
FindsPixels c s strings =
    Called kpixels.ps kpixels.r rpixels.Post {A = Line × List ℕ × List (List ℕ)}
    (λ κs a x e. (a.0, a.1.0.now, x.now ∷ [])) (c, s, strings)

abbrev pub FindsFirst : Available → List ℕ → List ℕ → Type 0
FindsFirst c s x =
    Called kfirst-block.ps kfirst-block.r rfirst-block.Post {A = Available × List ℕ × List ℕ}
    (λ κs a x e. (a.0, a.1.0.now, x.now)) (c, s, x)

abbrev pub FindsSecond : Available → List ℕ → List ℕ → Type 0
FindsSecond c s x =
    Called ksecond-block.ps ksecond-block.r rsecond-block.Post {A = Available × List ℕ × List ℕ}
    (λ κs a x e. (a.0, a.1.0.now, x.now)) (c, s, x)

pub record FindsBlocks (c : Available) (s : List ℕ) (strings : List (List ℕ)) : Type 0 where
  pub first : List ℕ
  pub second : List ℕ
  pub both : strings ≡ first ∷ second ∷ []
  pub finds-first : FindsFirst c s first
  pub finds-second : FindsSecond c s second

abbrev pub FindsAs : Content → List ℕ → List (List ℕ) → Type 0
FindsAs (content.Success c) s strings = strings ≡ []
FindsAs (content.Failure c) s strings = strings ≡ []
FindsAs (content.Housekeeping c) s strings = FindsRest c s strings
FindsAs (content.Available c) s strings = FindsBlocks c s strings
FindsAs (content.Line c) s strings = FindsPixels c s strings

abbrev pub format : Format Report (List (List ℕ)) ReportRead
format =
    record {
      wrong = report_wrong;
      octets = report_octets;
      accepting = Ok;
      Writes = Writes;
      Reads = Reads;
      Finds = λ r. FindsAs r.content;
    }

-- what the contracts say
abbrev pub Wrote : Seen → Type 0
Wrote x = WroteReport x.1 x.0 x.2 x.3 x.4 x.5

pub writes : (c : Content) (x : Seen) → WritesAs c x → Wrote x
writes (content.Success c) x k = of_call k Wrote (λ κs a x s p. p)
writes (content.Failure c) x k = of_call k Wrote (λ κs a x s p. p)
writes (content.Housekeeping c) x k = of_call k Wrote (λ κs a x s p. p)
writes (content.Available c) x k = of_call k Wrote (λ κs a x s p. p)
writes (content.Line c) x k = of_call k Wrote (λ κs a x s p. p)

pub reads : {s : List ℕ} {q : ReportRead} → Reads s q → told q ≡ read_report s
reads c = of_call c (λ x. told x.1 ≡ read_report x.0) (λ κs a x s p. p)

finds-rest : {c : Housekeeping} {s : List ℕ} {strings : List (List ℕ)} → FindsRest c s strings → strings ≡ rest_of c s ∷ []
finds-rest k = of_call k (λ x. x.2 ≡ rest_of x.0 x.1 ∷ []) (λ κs a x s p. ap (λ (y : List ℕ). y ∷ []) p)

finds-pixels : {c : Line} {s : List ℕ} {strings : List (List ℕ)} → FindsPixels c s strings → strings ≡ pixels_of s ∷ []
finds-pixels k = of_call k (λ x. x.2 ≡ pixels_of x.1 ∷ []) (λ κs a x s p. ap (λ (y : List ℕ). y ∷ []) p)

finds-first : {c : Available} {s x : List ℕ} → FindsFirst c s x → x ≡ first_block s
finds-first k = of_call k (λ x. x.2 ≡ first_block x.1) (λ κs a x s p. p)

finds-second : {c : Available} {s x : List ℕ} → FindsSecond c s x → x ≡ second_block s
finds-second k = of_call k (λ x. x.2 ≡ second_block x.1) (λ κs a x s p. p)

pub finds : (c : Content) (s : List ℕ) (strings : List (List ℕ)) → FindsAs c s strings → strings ≡ strings_of c s
finds (content.Success c) s strings k = k
finds (content.Failure c) s strings k = k
finds (content.Housekeeping c) s strings k = finds-rest k
finds (content.Available c) s strings k = k.both ∙ rw (finds-first k.finds-first, finds-second k.finds-second)
finds (content.Line c) s strings k = finds-pixels k

defined : Defined format
defined =
    record {
      told = told;
      reading = read_report;
      beside = λ r. strings_of r.content;
      writes = λ {a} {b} {out} {r} {out'} k. writes a.content (a.content, a.packet, b, out, r, out') k;
      reads = reads;
      finds = λ {a} {s} {b} k. finds a.content s b k;
      tells = λ r. refl;
      apart = told_apart;
      reads-back = λ r strings right. let k = reads-back r strings right in (k.fields, k.parts);
      writes-back = λ s r octet h. let k = writes-back s r octet h in (k.accepts, k.octets);
    }

pub calls_back : CallsBack format
calls_back = back.calls_back format defined
