-- The laws of a loop: none and one more turn, a turn that said stop, and all turns made.
use Prim.Native.Nat.{ℕ, suc, ◌+◌}
use mathlib.Core.Path.{◌≡◌, sym, ◌∙◌, subst}
use mathlib.Core.List.{List, [], ◌++◌}
use mathlib.Core.Bool.{Bool, true, false, true≢false}
use native.Mathlib.Omega.{arith}
use Rattle.window.specs.Turns.{none, more, Made, Loops, most}

module _ {S : Type 0} {going : S → Bool} {Turn : S → List ℕ → S → Type 0} {s : S} where
  pub at_first : Made going Turn s 0 s
  at_first = record { text = []; turns = none }

  pub one_more : {n : ℕ} {r t : S} {said : List ℕ} → Made going Turn s n r → going r ≡ true → Turn r said t → Made going Turn s (n + 1) t
  one_more {n} {t = t} {said} m g x =
      let e : suc n ≡ n + 1 = omega arith in
      subst (λ (k : ℕ). Made going Turn s k t) e (record { text = m.text ++ said; turns = more m.turns g x })

  pub stopped : {n : ℕ} {r : S} → Made going Turn s n r → going r ≡ false → Loops going Turn s n r
  stopped m g = record { made = m; stops = λ e. absurd (true≢false (sym e ∙ g)) }

  pub all_made : {n : ℕ} {r : S} → Made going Turn s n r → n ≡ most → Loops going Turn s n r
  all_made m e = record { made = m; stops = λ _. e }
