-- Laws of two lists end to end.
use Prim.Native.Nat.{ℕ, ◌+◌, ◌-◌, ◌≤◌, ◌<◌}
use native.Mathlib.Omega.{arith}
use mathlib.Core.Path.{◌≡◌, sym, ap, ◌∙◌}
use mathlib.Core.List.{List, ◌++◌}
use lib.ListN.{length, take, drop, get_or-append}
use lib.Seq.{get_or-append-add, take-append-add, drop-append-add}
use Rattle.octets.specs.Numbers.{at}

module _ (h d : List ℕ) (n : ℕ) where
  pub at_first : n < length h → at h n ≡ at (h ++ d) n
  at_first l = sym (get_or-append h d 0 n l)

  module _ (l : length h ≤ n) where
    sum : length h + (n - length h) ≡ n
    sum = omega arith

    pub at_second : at d (n - length h) ≡ at (h ++ d) n
    at_second = sym (get_or-append-add h d (n - length h) 0) ∙ ap (at (h ++ d)) sum

    pub take_past : h ++ take (n - length h) d ≡ take n (h ++ d)
    take_past = sym (take-append-add h d (n - length h)) ∙ ap (λ (k : ℕ). take k (h ++ d)) sum

    pub drop_past : drop (n - length h) d ≡ drop n (h ++ d)
    drop_past = sym (drop-append-add h d (n - length h)) ∙ ap (λ (k : ℕ). drop k (h ++ d)) sum
