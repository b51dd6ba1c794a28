-- The reader of reports and their writers undo one another.
use Rattle.std.specs.Prelude.{Ok, Some}
use Prim.Native.Nat.{ℕ, ◌+◌, ◌-◌, ◌≤◌, ◌<◌}
use native.Mathlib.Omega.{arith}
use mathlib.Core.Path.{◌≡◌, refl, sym, ap, subst, ◌∙◌}
use mathlib.Core.List.{List, ◌++◌}
use mathlib.Core.Bool.{Bool, false, ◌&&◌, ◌||◌}
use borrow.Author.Tests.{le-ltb, not-false}
use lib.ListN.{length, length-append}
use lib.Dec.{ltb}
use Rattle.octets.specs.Numbers.{at}
use Rattle.octets.specs.Parts.{part}
use Rattle.octets.proofs.Laws.{word_of, word-high, word_low}
use Rattle.octets.proofs.Runs.{run, part-run, part-two}
use Rattle.octets.proofs.Tests.{or_left, or_right}
use Rattle.crc.specs.Check.{with_check}
use Rattle.packet.specs.Packet.{source_of}
use Rattle.packet.specs.Write.{fields_wrong, packet_octets}
use Rattle.packet.specs.Asked.{InRange}
use Rattle.packet.proofs.Laws.{in_range, length-octets, after-source}
use Rattle.packet.proofs.Back.{length_of}
use Rattle.packet.proofs.Back.{reads-back as packet-reads-back, writes-back as packet-writes-back}
use Rattle.report.specs.Table.{pair, find_pair}
use Rattle.report.specs.Report.{content_of, length_wrong, line_above}
use Rattle.report.specs.Write.{numbers_of, lengths_of, strings_of, joined, source_data, pair_wrong, lengths_wrong, line_wrong, content_wrong}
use Rattle.report.specs.Write.{report_octets}
use Rattle.report.specs.Back.{ReadsBack, WritesBack}
use Rattle.report.proofs.Known.{Kind, a-success, a-failure, a-housekeeping, an_available, a-line}
use Rattle.report.proofs.Known.{Of, of_success, of_failure, of_housekeeping, of_available, of_line}
use Rattle.report.proofs.Read.{report-read, packet-accepted}
use Rattle.report.proofs.Accepted.{Accepted, accepted}
use Rattle.report.proofs.Strings.{total, strings-cut, length-joined, cut-joined, lengths-cut, joined-cut}
use Rattle.packet.specs.declared.Packet.{Packet}
use Rattle.report.specs.declared.table.Pair.{Pair}
use Rattle.report.specs.declared.Content.{Content}
use Rattle.report.specs.declared.Content.TheVariants.{Success, Failure, Housekeeping, Available, Line}

-- c is what the reader makes of the packet s, whose fields are p
record Read (p : Packet) (s : List ℕ) (c : Content) : Type 0 where
  pair : Pair
  known : find_pair p.service p.subtype ≡ Some pair
  length : length_wrong p pair ≡ false
  below : line_above p s ≡ false
  content : c ≡ content_of p s

module _ (p : Packet) (s : List ℕ) (c : Content) where
  read_as_lem : {least greatest : ℕ} {line : Bool} {f : List ℕ → Content} → Of p least greatest line f → least ≤ p.length
      → p.length ≤ greatest → (line && ltb 119 (at s 16)) ≡ false → f s ≡ c → Read p s c
  unfolding line_above
  read_as_lem {least} {greatest} {line} k l g below e =
      record {
        pair = pair p.service p.subtype least greatest;
        known = k.found;
        length = simp (le-ltb _ _ l, le-ltb _ _ g);
        below = ap (λ (b : Bool). b && ltb 119 (at s 16)) k.lines ∙ below;
        content = sym (k.content s ∙ e);
      }

-- the numbers of each report read back, whatever stands after them
written_read : (p : Packet) (c : Content) (rest : List ℕ) → pair_wrong p c ≡ false → line_wrong c ≡ false
    → p.length ≡ length (numbers_of c) + total (lengths_of c) → p.length ≤ 235 → Read p (packet_octets p (numbers_of c ++ rest)) c
unfolding packet_octets with_check
written_read p (Success c) rest pr li n g =
    read_as_lem p (packet_octets p (numbers_of (Success c) ++ rest)) (Success c) (of_success p (not-false _ pr))
    (omega arith) (omega arith) refl (simp word_of)
written_read p (Failure c) rest pr li n g =
    read_as_lem p (packet_octets p (numbers_of (Failure c) ++ rest)) (Failure c) (of_failure p (not-false _ pr))
    (omega arith) (omega arith) refl (simp word_of)
written_read p (Housekeeping c) rest pr li n g =
    let m : p.length - 1 ≡ c.length = omega arith in
    read_as_lem p (packet_octets p (numbers_of (Housekeeping c) ++ rest)) (Housekeeping c) (of_housekeeping p (not-false _ pr))
    (omega arith) g refl (simp m)
written_read p (Available c) rest pr li n g =
    read_as_lem p (packet_octets p (numbers_of (Available c) ++ rest)) (Available c) (of_available p (not-false _ pr))
    (omega arith) (omega arith) refl (simp word_of)
written_read p (Line c) rest pr li n g =
    read_as_lem p (packet_octets p (numbers_of (Line c) ++ rest)) (Line c) (of_line p (not-false _ pr))
    (omega arith) (omega arith) li (simp word_of)

-- what was written reads back
pub reads-back : ReadsBack
reads-back r strings right =
    let p : Packet = r.packet in
    let c : Content = r.content in
    let s : List ℕ = report_octets r strings in
    let wrong : content_wrong p c strings ≡ false = or_left _ _ right in
    let pr : pair_wrong p c ≡ false = or_left _ _ (or_left _ (line_wrong c) wrong) in
    let le : lengths_wrong (lengths_of c) strings ≡ false = or_right (pair_wrong p c) _ (or_left _ (line_wrong c) wrong) in
    let li : line_wrong c ≡ false = or_right (pair_wrong p c || lengths_wrong (lengths_of c) strings) _ wrong in
    let f : fields_wrong p (length (source_data c strings)) ≡ false = or_right (content_wrong p c strings) _ right in
    let range : InRange p (length (source_data c strings)) = in_range p _ f in
    let l : length (source_data c strings) ≡ length (numbers_of c) + length (joined strings) = length-append (numbers_of c) (joined strings) in
    let n : length (joined strings) ≡ total (lengths_of c) = length-joined (lengths_of c) strings le in
    let all : length s ≡ length (source_data c strings) + 16 = length-octets p (source_data c strings) in
    let m : Read p s c = written_read p c (joined strings) pr li (omega (arith, range.same)) (omega (arith, range.same, range.length)) in
    record {
      fields =
          sym
          (report-read p s refl m.known m.length m.below m.content
          ∙ packet-accepted s {x = Ok p} (sym (packet-reads-back p (source_data c strings) f).fields) refl);
      parts =
          strings-cut c s
          ∙ cut-joined (lengths_of c) strings s _ (14 + length (numbers_of c)) le (after-source p (numbers_of c) (joined strings))
          (omega arith);
    }

-- c as the packet s has it, whose fields are p
record Agrees (p : Packet) (s : List ℕ) (c : Content) : Type 0 where
  known : pair_wrong p c ≡ false
  line : line_wrong c ≡ false
  long : p.length ≡ length (numbers_of c) + total (lengths_of c)
  numbers : numbers_of c ≡ run 14 (length (numbers_of c)) s

-- the content of each report that was accepted
agrees : (p : Packet) (s : List ℕ) → ((i : ℕ) → at s i < 256) → line_above p s ≡ false → Kind p → Agrees p s (content_of p s)
unfolding line_above
agrees p s octet b (a-success f l) =
    subst (Agrees p s) (sym ((of_success p f).content s))
    (record { known = simp f; line = refl; long = l; numbers = simp (word-high, word_low, octet) })
agrees p s octet b (a-failure f l) =
    subst (Agrees p s) (sym ((of_failure p f).content s))
    (record { known = simp f; line = refl; long = l; numbers = simp (word-high, word_low, octet) })
agrees p s octet b (a-housekeeping f l) =
    subst (Agrees p s) (sym ((of_housekeeping p f).content s))
    (record { known = simp f; line = refl; long = omega arith; numbers = refl })
agrees p s octet b (an_available f l) =
    subst (Agrees p s) (sym ((of_available p f).content s))
    (record { known = simp f; line = refl; long = l; numbers = simp (word-high, word_low, octet) })
agrees p s octet b (a-line f l) =
    subst (Agrees p s) (sym ((of_line p f).content s))
    (record { known = simp f; line = simp f at b; long = l; numbers = simp (word-high, word_low, octet) })

neither : {a b : Bool} → a ≡ false → b ≡ false → (a || b) ≡ false
neither f g = simp (f, g)

-- what was accepted is what the writer gives, and the writer accepts it
pub writes-back : WritesBack
writes-back s r octet h =
    let p : Packet = r.packet in
    let c : Content = r.content in
    let k : Accepted s r = accepted s r h in
    let a : Agrees p s c = subst (Agrees p s) (sym k.content) (agrees p s octet k.below k.kind) in
    let all : length s ≡ p.length + 16 = length_of s p k.packet in
    let n : ℕ = length (numbers_of c) in
    let fits : (14 + n) + total (lengths_of c) ≤ length s = omega (arith, a.long) in
    let strings : joined (strings_of c s) ≡ part s (14 + n) (total (lengths_of c)) =
    ap joined (strings-cut c s) ∙ joined-cut (lengths_of c) s (14 + n) fits in
    let numbers : numbers_of c ≡ part s 14 n = a.numbers ∙ sym (part-run s 14 n (omega arith)) in
    let source : source_data c (strings_of c s) ≡ source_of p s =
    ap (λ (x : List ℕ). x ++ joined (strings_of c s)) numbers ∙ ap (λ (x : List ℕ). part s 14 n ++ x) strings
    ∙ sym (part-two s 14 n (total (lengths_of c)) (omega arith)) ∙ ap (part s 14) (sym a.long) in
    let lengths : lengths_wrong (lengths_of c) (strings_of c s) ≡ false =
    ap (lengths_wrong (lengths_of c)) (strings-cut c s) ∙ lengths-cut (lengths_of c) s (14 + n) fits in
    let w = packet-writes-back s p octet k.packet in
    record {
      accepts =
          neither (neither (neither a.known lengths) a.line) (ap (λ (d : List ℕ). fields_wrong p (length d)) source ∙ w.accepts);
      octets = ap (packet_octets p) source ∙ w.octets;
    }
