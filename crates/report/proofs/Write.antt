-- Laws that the writers' proofs cite.
use Rattle.std.specs.Prelude.{Err}
use Prim.Native.Nat.{ℕ, ◌+◌, ◌≤◌, ◌<◌}
use native.Mathlib.Omega.{arith}
use mathlib.Core.Path.{◌≡◌, refl, sym, ap, subst, ◌∙◌}
use mathlib.Core.List.{List, [], ◌∷◌, ◌++◌, append-nil, append_assoc}
use mathlib.Core.Bool.{Bool, true, false, not, ◌||◌}
use mathlib.Core.Logic.{⊎_elim}
use lib.Dec.{ltb, eqb}
use lib.ListN.{length, take, length-append}
use lib.Seq.{take_at}
use borrow.Author.Tests.{ltb-true, ltb-false}
use Rattle.octets.specs.Parts.{put, written}
use Rattle.octets.proofs.Tests.{or_left, or_right, or_true}
use Rattle.octets.proofs.Placing.{put_first, after}
use Rattle.answer.specs.declared.Reason.TheVariants.{FieldRange}
use Rattle.answer.specs.Writer.{Wrote}
use Rattle.answer.proofs.Writer.{refused_51}
use Rattle.answer.specs.Writer.{Written}
use Rattle.packet.specs.Write.{fields_wrong, packet_octets}
use Rattle.packet.proofs.Laws.{in_range}
use Rattle.packet.specs.declared.Packet.{Packet}
use Rattle.report.specs.Table.{success, failure, housekeeping, available, image_line}
use Rattle.report.specs.Write.{joined, source_data, content_wrong, WroteReport}
use Rattle.report.specs.Asked.{Short}
use Rattle.report.specs.Promised.{together, WroteSource}
use Rattle.report.specs.declared.Success.{Success}
use Rattle.report.specs.declared.Failure.{Failure}
use Rattle.report.specs.declared.Housekeeping.{Housekeeping}
use Rattle.report.specs.declared.Available.{Available}
use Rattle.report.specs.declared.Line.{Line}
use Rattle.report.specs.declared.Content.{Content}
use Rattle.report.specs.declared.Content.TheVariants as content

-- four strings laid one after another into o
pub four-laid : (a b c d o : List ℕ) {o₁ o₂ o₃ o₄ : List ℕ} → length o ≡ 478 → Short a b c d
    → o₁ ≡ put o 0 a → o₂ ≡ put o₁ (length a) b → o₃ ≡ put o₂ (length a + length b) c → o₄ ≡ put o₃ (length a + length b + length c) d
    → take (length a + length b + length c + length d) o₄ ≡ together a b c d
four-laid a b c d o {o₁} {o₂} {o₃} {o₄} l k e₁ e₂ e₃ e₄ =
    let n : ℕ = length a + length b + length c + length d in
    let m₂ : length (a ++ b) ≡ length a + length b = length-append a b in
    let m₃ : length ((a ++ b) ++ c) ≡ length a + length b + length c = simp length-append in
    let m₄ : length (((a ++ b) ++ c) ++ d) ≡ n = simp length-append in
    let f₁ : o₁ ≡ written a o = e₁ ∙ put_first a o (omega arith) in
    let f₂ : o₂ ≡ written (a ++ b) o = after a b o (length a) f₁ e₂ refl (omega arith) in
    let f₃ : o₃ ≡ written ((a ++ b) ++ c) o = after (a ++ b) c o (length a + length b) f₂ e₃ (sym m₂) (omega arith) in
    let f₄ : o₄ ≡ written (((a ++ b) ++ c) ++ d) o = after ((a ++ b) ++ c) d o (length a + length b + length c) f₃ e₄ (sym m₃)
    (omega arith) in
    ap (take n) f₄ ∙ take_at (((a ++ b) ++ c) ++ d) _ n m₄ ∙ simp (append_assoc, append-nil)

-- the core's test passed
pub record Passed (wrong : Bool) (c d : List ℕ) : Type 0 where
  pub right : wrong ≡ false
  pub third : length c ≤ 235
  pub fourth : length d ≤ 235

pub core_passed : (w : Bool) (c d : List ℕ) → (w || ltb 235 (length c) || ltb 235 (length d)) ≡ false → Passed w c d
core_passed w c d h =
    let g : (w || ltb 235 (length c)) ≡ false = or_left _ (ltb 235 (length d)) h in
    record {
      right = or_left w (ltb 235 (length c)) g;
      third = ltb-false 235 (length c) (or_right w _ g);
      fourth = ltb-false 235 (length d) (or_right (w || ltb 235 (length c)) _ h);
    }

true_unless : (b : Bool) → (b ≡ false → ⊥) → b ≡ true
true_unless true h = refl
true_unless false h = absurd (h refl)

-- source data has 235 octets and no more
too_long : (p : Packet) (source : List ℕ) {out : List ℕ} → 235 < length source → WroteSource false p source out (Err FieldRange) out
too_long p source h =
    let f : fields_wrong p (length source) ≡ true = true_unless _ (λ r. omega (arith, (in_range p (length source) r).length)) in
    refused_51 {said = true} (sym f) refl

-- the core's two ends
pub core_refused : (w : Bool) (p : Packet) (a b c d : List ℕ) {out : List ℕ} → (w || ltb 235 (length c) || ltb 235 (length d)) ≡ true
    → WroteSource w p (together a b c d) out (Err FieldRange) out
core_refused true p a b c d h = refused_51 refl refl
core_refused false p a b c d h =
    let n : length (together a b c d) ≡ length a + (length b + (length c + (length d + 0))) = simp length-append in
    ⊎_elim
    (λ k. too_long p (together a b c d) (omega (arith, ltb-true 235 (length c) k)))
    (λ k. too_long p (together a b c d) (omega (arith, ltb-true 235 (length d) k)))
    (or_true (ltb 235 (length c)) (ltb 235 (length d)) h)

pub core_written : {w : Bool} (p : Packet) {laid source out : List ℕ} {r : Written} {out' : List ℕ} → w ≡ false → laid ≡ source
    → Wrote (fields_wrong p (length laid)) (packet_octets p laid) out r out' → WroteSource w p source out r out'
core_written {w} p {out = out} {r = r} {out' = out'} h e x =
    rw h (subst (λ (s : List ℕ). Wrote (fields_wrong p (length s)) (packet_octets p s) out r out') e x)

-- from the core's contract to a report's
pub reported : (p : Packet) (c : Content) (strings : List (List ℕ)) {w : Bool} {source out : List ℕ} {r : Written} {out' : List ℕ}
    → w ≡ content_wrong p c strings → source ≡ source_data c strings → WroteSource w p source out r out' → WroteReport p c strings out r out'
reported p c strings {w} {source} {out} {r} {out'} e f x =
    subst (λ (b : Bool). WroteSource b p (source_data c strings) out r out') e
    (subst (λ (s : List ℕ). WroteSource w p s out r out') f x)

-- the numbers stand first
pub numbers-first : {a b x y z : List ℕ} (c d : List ℕ) → a ≡ x → b ≡ y → c ≡ z → together a b c d ≡ (x ++ y) ++ joined (z ∷ d ∷ [])
numbers-first c d e f g = simp (e, f, g, append_assoc)

or_none : (a : Bool) → (a || false) ≡ a
or_none true = refl
or_none false = refl

-- what each report's writer tests, where t is what the test of the pair said
module _ (p : Packet) {t : Bool} where
  pub success-wrong : (c : Success) → t ≡ success p → not t ≡ content_wrong p (content.Success c) []
  success-wrong c e = simp (e, or_none)

  pub failure-wrong : (c : Failure) → t ≡ failure p → not t ≡ content_wrong p (content.Failure c) []
  failure-wrong c e = simp (e, or_none)

  pub housekeeping-wrong : (c : Housekeeping) (rest : List ℕ) → t ≡ housekeeping p
      → (not t || not (eqb (length rest) c.length)) ≡ content_wrong p (content.Housekeeping c) (rest ∷ [])
  housekeeping-wrong c rest e = simp (e, or_none)

  pub available-wrong : (c : Available) (first second : List ℕ) → t ≡ available p
      → (not t || (not (eqb (length first) 80) || not (eqb (length second) 80))) ≡ content_wrong p (content.Available c)
      (first ∷ second ∷ [])
  available-wrong c first second e = simp (e, or_none)

  pub line-wrong : (c : Line) (pixels : List ℕ) → t ≡ image_line p
      → (not t || not (eqb (length pixels) 188) || ltb 119 c.line) ≡ content_wrong p (content.Line c) (pixels ∷ [])
  line-wrong c pixels e = simp (e, or_none)
