-- No second result satisfies the contract of this crate's public function.
use Prim.Native.Nat.{ℕ}
use mathlib.Core.Path.{◌≡◌, sym, ap, ap₂, ◌∙◌}
use mathlib.Core.List.{List}
use Rattle.octets.specs.Unique.{Fixes}
use Rattle.octets.specs.Pick.{pick}
use Rattle.octets.specs.Parts.{written}
use Rattle.rules.specs.Packets.{cut}
use Rattle.kiss_writer.specs.Export.{stream_of, told, Exports}
use Rattle.kiss_writer.specs.Answers.{Exported}
use Rattle.kiss_writer.proofs.Told.{told_apart}
use Rattle.kiss_writer.proofs.write.Kinds as kwrite
use Rattle.kiss_writer.proofs.write.Reads as rwrite

one_export : (t : ℕ) (octets lengths out : List ℕ) (r q : Exported) (o₁ o₂ : List ℕ)
    → Exports t octets lengths out r o₁ → Exports t octets lengths out q o₂ → ◌≡◌ {A = Exported × List ℕ} (r, o₁) (q, o₂)
one_export t octets lengths out r q o₁ o₂ a b =
    let e : r ≡ q = told_apart r q (a.answers ∙ sym b.answers) in
    ap₂ {C = Exported × List ℕ} (λ r o. (r, o)) e
    (a.leaves ∙ ap (λ (r : Exported). pick (told r).accepted (written (stream_of (cut octets lengths)) out) out) e ∙ sym b.leaves)

-- the answer, and the lent octets afterwards
pub write_fixed : Fixes kwrite.ps kwrite.r {A = Exported × List ℕ} rwrite.Post (λ κs x s. (x, s.1.1.1.0.now))
write_fixed κs a x y s t p q = one_export _ _ _ _ x y _ _ p q
