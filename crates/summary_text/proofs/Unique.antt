-- No second result satisfies the contracts of this crate's public functions.
use Prim.Native.Nat.{ℕ}
use mathlib.Core.List.{List}
use mathlib.Core.Path.{◌≡◌, sym, ap, ◌∙◌}
use Rattle.octets.specs.Unique.{Fixes}
use Rattle.summary_pen.specs.Page.{Shows}
use Rattle.summary_text.proofs.put.Kinds as kput
use Rattle.summary_text.proofs.put.Reads as rput
use Rattle.summary_text.proofs.put_csv.Kinds as kput-csv
use Rattle.summary_text.proofs.put_csv.Reads as rput-csv

one-shown : {text : List ℕ} {skip : ℕ} {out out₁ out₂ : List ℕ} {r₁ r₂ : ℕ} → Shows text skip out out₁ r₁
    → Shows text skip out out₂ r₂ → ◌≡◌ {A = ℕ × List ℕ} (r₁, out₁) (r₂, out₂)
one-shown {out₁ = out₁} {r₂ = r₂} p q =
    ap (λ (r : ℕ). (r, out₁)) (p.many ∙ sym q.many) ∙ ap (λ (o : List ℕ). (r₂, o)) (p.leaves ∙ sym q.leaves)

-- the answer and the lent output afterwards
pub put_fixed : Fixes kput.ps kput.r {A = ℕ × List ℕ} rput.Post (λ κs x s. (x, s.1.1.1.1.0.now))
put_fixed κs a x y s t p q = one-shown p q

pub put_csv_fixed : Fixes kput-csv.ps kput-csv.r {A = ℕ × List ℕ} rput-csv.Post (λ κs x s. (x, s.1.1.1.1.0.now))
put_csv_fixed κs a x y s t p q = one-shown p q
