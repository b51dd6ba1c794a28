-- A line that the report's reader accepted has its place in the image.
use Prim.Native.Nat.{ℕ, ◌-◌, ◌<◌}
use native.Mathlib.Omega.{arith}
use mathlib.Core.Path.{◌≡◌, refl, sym, ap, subst⁻¹, ◌∙◌}
use mathlib.Core.List.{List}
use mathlib.Core.Bool.{Bool, true, false, true≢false}
use lib.ListN.{length, length-take, length-drop}
use borrow.Author.Tests.{ltb-false}
use Rattle.octets.specs.Numbers.{at}
use Rattle.octets.specs.Pick.{pick}
use Rattle.octets.proofs.Placing.{part-some}
use Rattle.answer.specs.Told.{accept}
use Rattle.packet.specs.Packet.{read_packet, fields_of}
use Rattle.packet.specs.declared.Packet.{Packet}
use Rattle.report.specs.Table.{success, failure, housekeeping, available, image_line}
use Rattle.report.specs.Report.{content_of, line_above, read_report, pixels_of}
use Rattle.report.specs.declared.Content.{Content}
use Rattle.report.specs.declared.Report.{Report}
use Rattle.report.proofs.Accepted.{accepted}
use Rattle.report.proofs.Known.{Kind, a-success, a-failure, a-housekeeping, an_available, a-line}
use Rattle.image.specs.Line.{line_pixels, image_lines}
use Rattle.image.specs.Asked.{LineFits}
use Rattle.packet.proofs.Back.{accepted as packet-accepted}

either : (s : List ℕ) (b : Bool) (x y : Content) → LineFits x s → (b ≡ false → LineFits y s) → LineFits (pick b x y) s
unfolding pick
either s true x y f g = f
either s false x y f g = g refl

never : {A : Type 0} {b : Bool} → b ≡ true → b ≡ false → A
never t f = absurd (true≢false (sym t ∙ f))

-- the fields' length is that of the octets
packet-length : (s : List ℕ) (p : Packet) → read_packet s ≡ accept p → p.length ≡ length s - 16
unfolding fields_of
packet-length s p h = sym (ap (λ (q : Packet). q.length) (packet-accepted h).fields)

pixels-length : (s : List ℕ) → length s - 16 ≡ 191 → length (pixels_of s) ≡ line_pixels
pixels-length s h =
    ap length (sym (part-some s 17 line_pixels (omega arith))) ∙ simp (length-take, length-drop) (omega arith)

line-below : (p : Packet) (s : List ℕ) → image_line p ≡ true → line_above p s ≡ false → at s 16 < image_lines
unfolding line_above
line-below p s t h = omega (arith, ltb-false 119 (at s 16) (rw t at h))

-- only an image line is a line's content
line-content : (p : Packet) (s : List ℕ) → Kind p → line_above p s ≡ false → p.length ≡ length s - 16 → LineFits (content_of p s) s
unfolding content_of
line-content p s k h e =
    either s (success p) _ _ tt
    (λ n₁. either s (failure p) _ _ tt
    (λ n₂. either s (housekeeping p) _ _ tt
    (λ n₃. either s (available p) _ _ tt (λ n₄. of_kind k n₁ n₂ n₃ n₄))))
  where
    of_kind : Kind p → success p ≡ false → failure p ≡ false → housekeeping p ≡ false → available p ≡ false
        → (at s 16 < image_lines) × (length (pixels_of s) ≡ line_pixels)
    of_kind (a-success t l) n₁ n₂ n₃ n₄ = never t n₁
    of_kind (a-failure t l) n₁ n₂ n₃ n₄ = never t n₂
    of_kind (a-housekeeping t l) n₁ n₂ n₃ n₄ = never t n₃
    of_kind (an_available t l) n₁ n₂ n₃ n₄ = never t n₄
    of_kind (a-line t l) n₁ n₂ n₃ n₄ = (line-below p s t h, pixels-length s (sym e ∙ l))

pub fits : (s : List ℕ) (r : Report) → read_report s ≡ accept r → LineFits r.content s
fits s r h =
    let a = accepted s r h in
    subst⁻¹ (λ (c : Content). LineFits c s) a.content
    (line-content r.packet s a.kind a.below (packet-length s r.packet a.packet))
