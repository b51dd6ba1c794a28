-- Laws that the reader's proof cites: its answers, one for each end.
use Rattle.std.specs.Prelude.{Ok, Err, Some, None}
use Prim.Native.Nat.{ℕ, ◌+◌, ◌-◌, ◌*◌, ◌≤◌}
use native.Mathlib.Omega.{arith}
use mathlib.Core.Path.{◌≡◌, sym, ap, ◌∙◌}
use mathlib.Core.List.{List}
use mathlib.Core.Bool.{Bool, true, false, ◌&&◌}
use lib.Dec.{ltb}
use Rattle.octets.specs.Numbers.{at, word, four}
use Rattle.octets.specs.Pick.{pick}
use Rattle.octets.proofs.Choices.{picked, passed}
use Rattle.answer.specs.Told.{Told, accept, refuse, refuse_for, octet_of}
use Rattle.answer.specs.declared.Reason.{Reason}
use Rattle.answer.specs.Refusals as refusal
use Rattle.packet.specs.Packet.{no_packet, read_packet}
use Rattle.packet.proofs.Told.{no-octet}
use Rattle.report.specs.Table.{find_pair, success, failure, housekeeping, available, image_line}
use Rattle.report.specs.Report.{content_of, length_wrong, line_above, no_report, in_pair, read_content, read_report}
use Rattle.report.proofs.Known.{kind, some-octets, of_success, of_failure, of_housekeeping, of_available}
use Rattle.packet.specs.declared.Packet.{Packet}
use Rattle.packet.specs.Answers.{PacketRead}
use Rattle.report.specs.declared.table.Pair.{Pair}
use Rattle.report.specs.Answers.{Found}
use Rattle.report.specs.declared.Content.{Content}
use Rattle.report.specs.declared.Content.TheVariants as content
use Rattle.report.specs.declared.Report.{Report}
use Rattle.packet.specs.Packet.{told as packet-told}

-- f is what the search gave
module _ (p : Packet) (s : List ℕ) {f : Found} (e : f ≡ find_pair p.service p.subtype) where
  pub pair-unknown : f ≡ None → refuse no_report refusal.pair ≡ read_content p s
  unfolding read_content in_pair
  pair-unknown u = ap (λ (x : Found). in_pair x p s) (sym u ∙ e)

  module _ {q : Pair} (k : f ≡ Some q) where
    pub length-refused : length_wrong p q ≡ true → refuse no_report refusal.source_length ≡ read_content p s
    unfolding read_content in_pair
    length-refused t = picked _ _ _ t ∙ ap (λ (x : Found). in_pair x p s) (sym k ∙ e)

    module _ (t : length_wrong p q ≡ false) where
      pub enough : 1 ≤ p.length
      enough = some-octets p (kind p (sym e ∙ k) t)

      pub line_refused : line_above p s ≡ true → refuse no_report refusal.line ≡ read_content p s
      unfolding read_content in_pair
      line_refused u = passed _ _ _ _ t (picked _ _ _ u) ∙ ap (λ (x : Found). in_pair x p s) (sym k ∙ e)

      pub report-read : {c : Content} → line_above p s ≡ false → c ≡ content_of p s → accept
          (record { packet = p; content = c }) ≡ read_content p s
      unfolding read_content in_pair
      report-read u ec =
          passed _ _ _ _ t (passed _ _ _ _ u (ap (λ (x : Content). accept {A = Report} (record { packet = p; content = x })) ec))
          ∙ ap (λ (x : Found). in_pair x p s) (sym k ∙ e)

module _ (p : Packet) (s : List ℕ) where
  -- what the test of refusal 32 came to
  pub above : {t v : Bool} {line : ℕ} → t ≡ image_line p → line ≡ at s 16 → (t && ltb 119 line) ≡ v → line_above p s ≡ v
  unfolding line_above
  above e f h = rw (e, f) at h

  -- the content, from what was read of s and what the tests of the pair said
  module _ {first second third : ℕ} (e₁ : first ≡ word (at s 14) (at s 15)) (e₂ : second ≡ word (at s 16) (at s 17))
      (e₃ : third ≡ word (at s 18) (at s 19)) where
    pub success-read : {t : Bool} → t ≡ success p → t ≡ true → content.Success (record { id = first; control = second }) ≡ content_of p s
    success-read u h = rw (e₁, e₂) (sym ((of_success p (sym u ∙ h)).content s))

    pub failure-read : {t : Bool} → t ≡ failure p → t ≡ true → content.Failure
        (record { id = first; control = second; code = third }) ≡ content_of p s
    failure-read u h = rw (e₁, e₂, e₃) (sym ((of_failure p (sym u ∙ h)).content s))

    pub available-read : {t : Bool} → t ≡ available p → t ≡ true
        → content.Available (record { image = first; ticks = second * 65536 + third }) ≡ content_of p s
    available-read u h =
        let ticks : second * 65536 + third ≡ four (at s 16) (at s 17) (at s 18) (at s 19) = omega arith in
        rw (e₁, ticks) (sym ((of_available p (sym u ∙ h)).content s))

  pub housekeeping-read : {sid : ℕ} {t : Bool} → sid ≡ at s 14 → t ≡ housekeeping p → t ≡ true
      → content.Housekeeping (record { sid = sid; length = p.length - 1 }) ≡ content_of p s
  housekeeping-read e u h = rw e (sym ((of_housekeeping p (sym u ∙ h)).content s))

  pub line_read : {image line : ℕ} → image ≡ word (at s 14) (at s 15) → line ≡ at s 16 → success p ≡ false → failure p ≡ false
      → housekeeping p ≡ false
      → available p ≡ false → content.Line (record { image = image; line = line }) ≡ content_of p s
  unfolding content_of
  line_read e₁ e₂ h₁ h₂ h₃ h₄ =
      passed _ _ _ _ h₁ (passed _ _ _ _ h₂ (passed _ _ _ _ h₃ (passed _ _ _ _ h₄ (rw (e₁, e₂)))))

-- x is what the packet's reader gave
module _ (s : List ℕ) {x : PacketRead} (e : packet-told x ≡ read_packet s) where
  pub packet-accepted : {p : Packet} → x ≡ Ok p → read_content p s ≡ read_report s
  unfolding read_report pick
  packet-accepted k = simp (sym e ∙ ap packet-told k)

  pub packet-refused : {n : Reason} → x ≡ Err n → refuse_for no_report n ≡ read_report s
  unfolding read_report pick
  packet-refused {n} k =
      let told : read_packet s ≡ refuse_for no_packet n = sym e ∙ ap packet-told k in
      let octet : octet_of n ≡ 0 = sym (ap (λ (t : Told Packet). t.octet) told) ∙ no-octet s in
      simp (told, octet)
