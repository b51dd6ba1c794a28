use Rattle.std.proofs.Common.{refl, ◌≡◌, ℕ, ◌+◌, length, List, [], ap, ◌∙◌, arith, Bor, Option, Some, None}
use Rattle.std.specs.Option.{unwrap_or}
use Rattle.std.specs.Slice.{IsGetRangeResult}
use Rattle.words.specs.Words.{word_of, rest_of}
use Rattle.words.proofs.Splitting.{rest-behind, rest-none}
use Rattle.words.proofs.rest.Goals as goal

behind : (s : List ℕ) (n : ℕ) → n ≡ length (word_of s) → (r : Option (Bor (List ℕ))) (e : Bor (List ℕ)) → e.now ≡ []
    → IsGetRangeResult s (n + 1) (length s) r → (unwrap_or r e).now ≡ rest_of s
behind s n w (Some x) e z h = h.0.2 ∙ rest-behind s n w (omega (arith, h.0))
behind s n w None e z h = z ∙ rest-none s n w (omega (arith, h.0))

pub returns : goal.returns
returns c =
    let s = c.args.s.now in
    ap (λ (b : Bor (List ℕ)). b.now) c.unwrap_or.ensures
    ∙ behind s c.spaced.result c.spaced.ensures.value c.get.result _ refl c.get.ensures.lookup
