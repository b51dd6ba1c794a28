-- Laws of a text whose last line is ended.
use Rattle.std.proofs.Common.{◌≡◌, ℕ, ◌+◌, ◌-◌, ◌<◌, ◌≤◌, Bool, false, not, ◌&&◌, eqb, List, [], ◌∷◌, ◌++◌, length, take, set, sym, refl, ap, ◌∙◌, subst, add-one, arith, length-append, length-take-le, get_or-take, take-suc-set, eq-eqb, ne_eqb}
use Rattle.octets.specs.Numbers.{at}
use Rattle.octets.specs.Pick.{pick}
use Rattle.octets.proofs.Choices.{picked, passed}
use Rattle.readings_run.specs.Text.{line_ended, Ends}

pub no_text : {text : List ℕ} {n : ℕ} → n ≡ 0 → Ends text n text 0
unfolding line_ended pick
no_text {text} {n} e =
    subst (λ (k : ℕ). Ends text k text 0) (sym e) (record { size = λ _. refl; ended = λ _. refl; full = λ _. (refl, refl) })

pub no_room : {text : List ℕ} {n : ℕ} → length text ≤ n → Ends text n text n
no_room h = record { size = λ k. absurd (omega arith); ended = λ k. absurd (omega arith); full = λ _. (refl, refl) }

module _ (text : List ℕ) {n : ℕ} (some : n ≡ 0 → ⊥) (h : n < length text) where
  long : length (take n text) ≡ n
  long = length-take-le n text (omega arith)

  last-is : at (take n text) (length (take n text) - 1) ≡ at text (n - 1)
  last-is = ap (λ (k : ℕ). at (take n text) (k - 1)) long ∙ get_or-take n text (n - 1) 0 (omega (arith, some))

  not_empty : eqb (length (take n text)) 0 ≡ false
  not_empty = ne_eqb (length (take n text)) 0 (λ z. some (sym long ∙ z))

  stays : at text (n - 1) ≡ 10 → line_ended (take n text) ≡ take n text
  unfolding line_ended
  stays e =
      sym (passed _ _ _ _ (ap (λ (b : Bool). not b && not (eqb (at (take n text) (length (take n text) - 1)) 10)) not_empty ∙ ap not
      (eq-eqb _ 10 (last-is ∙ e))) refl)

  grows : (at text (n - 1) ≡ 10 → ⊥) → line_ended (take n text) ≡ take n text ++ (10 ∷ [])
  unfolding line_ended
  grows e =
      sym (picked _ _ _ (ap (λ (b : Bool). not b && not (eqb (at (take n text) (length (take n text) - 1)) 10)) not_empty ∙ ap not
      (ne_eqb _ 10 (λ z. e (sym last-is ∙ z)))))

  pub was_ended : at text (n - 1) ≡ 10 → Ends text n text n
  was_ended e = record { size = λ _. sym (ap length (stays e) ∙ long); ended = λ _. sym (stays e); full = λ k. absurd (omega arith) }

  pub now_ended : (at text (n - 1) ≡ 10 → ⊥) → Ends text n (set text n 10) (n + 1)
  now_ended e = record {
    size = λ _. sym (ap length (grows e) ∙ length-append (take n text) (10 ∷ []) ∙ ap (λ (k : ℕ). k + 1) long);
    ended = λ _. ap (λ (k : ℕ). take k (set text n 10)) (add-one n) ∙ take-suc-set text n 10 h ∙ sym (grows e);
    full = λ k. absurd (omega arith);
  }
