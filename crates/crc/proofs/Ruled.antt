-- A table is right if its rule is tested at every word of it: one test, which antt computes.
use mathlib.Core.Path.{◌≡◌}
use mathlib.Core.Bool.{Bool, true, ◌&&◌}
use mathlib.Core.List.{List, [], ◌∷◌}
use Prim.Native.Nat.{ℕ, zero, suc, ◌+◌, ◌<◌}
use native.Mathlib.Nat.{add-zero, zero-add}
use native.Mathlib.Omega.{arith}
use lib.ListN.{length, get_or}
use Rattle.octets.proofs.Tests.{and_true_left, and_true_right}

-- the rule of a place and the word there holds of each word, where the first stands at place k
abbrev pub holds_from : (ℕ → ℕ → Bool) → ℕ → List ℕ → Bool
holds_from rule k [] = true
holds_from rule k (word ∷ words) = rule k word && holds_from rule (k + 1) words

behind : (rule : ℕ → ℕ → Bool) (k : ℕ) (words : List ℕ) → holds_from rule k words ≡ true
    → (i : ℕ) → i < length words → rule (k + i) (get_or words i 0) ≡ true
behind rule k [] t i h = absurd (omega arith)
behind rule k (word ∷ words) t zero h = simp add-zero (and_true_left (rule k word) (holds_from rule (k + 1) words) t)
behind rule k (word ∷ words) t (suc i) h =
    let further : k + 1 + i ≡ k + suc i = omega arith in
    rw further at (behind rule (k + 1) words (and_true_right (rule k word) (holds_from rule (k + 1) words) t) i (omega arith))

pub ruled : (rule : ℕ → ℕ → Bool) (words : List ℕ) → holds_from rule 0 words ≡ true
    → (i : ℕ) → i < length words → rule i (get_or words i 0) ≡ true
ruled rule words t i h = rw zero-add at (behind rule 0 words t i h)
