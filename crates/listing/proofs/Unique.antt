-- No second result satisfies a contract of this crate's public functions.
use Prim.Native.Nat.{ℕ}
use mathlib.Core.Path.{◌≡◌, sym, ap, ◌∙◌}
use mathlib.Core.List.{List}
use Rattle.octets.specs.Unique.{Fixes}
use Rattle.decimal.proofs.Laid.{one-put}
use Rattle.receiver.specs.declared.Receiver.{Receiver}
use Rattle.listing.specs.Next.{Nexts}
use Rattle.listing.specs.declared.Listed.{Listed}
use Rattle.listing.proofs.next.Kinds as knext
use Rattle.listing.proofs.next.Reads as rnext
use Rattle.listing.proofs.end.Kinds as kend
use Rattle.listing.proofs.end.Reads as rend

-- the answer, the octets kept and the lent output afterwards
one-next : {a : Receiver} {kept w out : List ℕ} {r q : Listed} {kept₁ kept₂ out₁ out₂ : List ℕ} → Nexts a kept w out r kept₁ out₁
    → Nexts a kept w out q kept₂ out₂
    → ◌≡◌ {A = Listed × List ℕ × List ℕ} (r, kept₁, out₁) (q, kept₂, out₂)
one-next {q = q} {kept₁} {kept₂} {out₁} a b =
    ap (λ (x : Listed). (x, kept₁, out₁)) (a.answers ∙ sym b.answers)
    ∙ ap (λ (x : List ℕ). (q, x, out₁)) (a.keeps ∙ sym b.keeps)
    ∙ ap (λ (x : List ℕ). (q, kept₂, x)) (a.leaves ∙ sym b.leaves)

pub next_fixed : Fixes knext.ps knext.r {A = Listed × List ℕ × List ℕ} rnext.Post (λ κs x s. (x, s.1.1.0.now, s.1.1.1.0.now))
next_fixed κs a x y s t p q = one-next p q

pub end_fixed : Fixes kend.ps kend.r {A = ℕ × List ℕ} rend.Post (λ κs x s. (x, s.1.0.now))
end_fixed κs a x y s t p q = one-put p q
