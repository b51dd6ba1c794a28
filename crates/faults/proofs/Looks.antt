-- Laws of bits that stand one to an octet.
use Rattle.std.proofs.Common.{◌≡◌, ℕ, Bool, ◌&&◌, List, ap, ◌∙◌}
use Rattle.faults.specs.Look.{alone, one_among}

-- what the calls told of the first octets
pub both : {a b : Bool} {x y : List ℕ} → a ≡ alone x → b ≡ one_among x → x ≡ y → (a && b) ≡ (alone y && one_among y)
both {a} {b} {x} {y} p q e =
    ap (λ (v : Bool). v && b) p ∙ ap (λ (v : Bool). alone x && v) q ∙ ap (λ (l : List ℕ). alone l && one_among l) e
